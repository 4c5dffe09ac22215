use Rattle.std.proofs.Common.{◌+◌, ◌-◌, ◌*◌, ◌≤◌, arith, rules}
use Rattle.image.specs.Stores.{byte_limit}
use Rattle.image.proofs.Sizes.{factor_le, second_left}
use Rattle.image.proofs.numbers.Numbers.check.Goals as goal

size_le : (c : goal.Else-check_image_size_overflow_with_stride) → c.pitch-stride.result * (c.args.self.now.height - 1) + c.args.self.now.width * c.args.self.now.channels ≤ byte_limit
size_le c =
    let n = c.args.self.now in
    let all = second_left _ _ _ c.if-check_image_size_overflow_with_stride.ensures in
    factor_le (c.pitch-stride.result * (n.height - 1) + n.width * n.channels) c.args.t_size byte_limit (omega arith) all

pub overflow_add-valid_size : goal.overflow_add-valid_size
overflow_add-valid_size c = let h = size_le c in search rules
