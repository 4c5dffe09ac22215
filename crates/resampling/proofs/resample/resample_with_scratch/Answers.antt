use Rattle.image.specs.Refusals.{reply}
use Rattle.history.specs.Calls.{answer_of}
use Rattle.history.specs.Calls.Window.{whole}
use Rattle.history.proofs.Steps.{answered_step}
use Rattle.history.proofs.Runs.{promise}
use Rattle.resampling.specs.Seen.{sheet_of, call_of}
use Rattle.resampling.proofs.Stands.{extends, upholds, where_granted, where_refused}
use Rattle.resampling.proofs.resample.resample_with_scratch.Goals as goal

pub returns : goal.returns
unfolding answer_of
returns g c =
    let p = c.args.plan.now in
    let r = c.resample_store.result in
    let call = call_of (g.F.KernelFamily.meaning p.family) p whole c.args.source.now c.args.work.now c.args.first.now c.args.second.now in
    let s = sheet_of c.args.sheet.now in
    let t = sheet_of c.resample_store.new.into in
    let st = answered_step g.T.Element.BYTES g.T.Element.NEEDS_DEPTH call s t (reply r) (g.met.F.KernelFamily.shaped p.family) c.resample_store.ensures.reply c.resample_store.ensures.same
    (where_granted r _ _ _ c.resample_store.ensures.after) (where_refused r _ _ _ c.resample_store.ensures.after) in
    record {
      step = st;
      past = extends g.T.Element.BYTES g.T.Element.NEEDS_DEPTH call s t (reply r) st;
      upheld = upholds g.T.Element.BYTES g.T.Element.NEEDS_DEPTH call s t (reply r) st;
      promise = promise _;
      after = c.resample_store.ensures.after;
      same = c.resample_store.ensures.same;
      place = c.resample_store.ensures.place;
      kept = c.resample_store.ensures.kept;
    }
