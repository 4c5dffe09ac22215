-- What makes a step: the plan's value laid into the window of a granted call, and nothing at a refusal.
use Rattle.std.proofs.Common.{◌≡◌, ℕ, ◌+◌, ◌-◌, ◌*◌, ◌<◌, Bool, true, false, ◌&&◌, ltb, leb, List, length, get_or, sym, refl, ap, ◌∙◌, subst, ap₂, arith}
use Rattle.std.proofs.lemmas.Bool.{and_from, le-leb, lt-ltb}
use Rattle.image.specs.Refusals.{Answer}
use Rattle.image.specs.Refusals.Answer.{granted, refused}
use Rattle.image.specs.declared.numbers.Numbers.{Numbers}
use Rattle.image.specs.Stores.{pitch, row_length, pixel, image, image_pixel}
use Rattle.image.proofs.Granted.{Sound}
use Rattle.image.proofs.RowsOf.{length-rows}
use Rattle.image.proofs.Copied.{image_even}
use Rattle.convolution.specs.Meaning.{Shaped}
use Rattle.values.proofs.Shapes.{SomeSize, Sized}
use Rattle.values.proofs.Plans.{plan_sized}
use Rattle.values.proofs.Copies.{plan_copied}
use Rattle.planner.specs.Stages.{same_size}
use Rattle.history.specs.Calls.{Call, Store, Area, area, asked, covers, is_granted, plan_value, answer_to, over, due, Step}
use Rattle.history.proofs.Allowed.{Matched, Allowed, allowed, window_numbers, Inside, over_is}
use Rattle.history.proofs.Windows.{stamped, LaidIn, laid_in}

covers_inside : (a : Area) (x y : ℕ) → Inside a x y → covers a x y ≡ true
covers_inside a x y i =
    and_from (leb a.left x && ltb x (a.left + a.width)) (leb a.top y && ltb y (a.top + a.height))
    (and_from (leb a.left x) (ltb x (a.left + a.width)) (le-leb _ _ i.left) (lt-ltb _ _ i.right))
    (and_from (leb a.top y) (ltb y (a.top + a.height)) (le-leb _ _ i.top) (lt-ltb _ _ i.bottom))

module _ {E : Type 0} where
  -- the pixels of a sound store, as an image of its size
  pub image_sized : (n : Numbers) (xs : List E) → Sound n (length xs) → Sized (row_length n) n.height (image n xs)
  image_sized n xs ok = record { tall = length-rows xs (row_length n) (pitch n) n.height; even = image_even n xs ok }

  -- what a plan's source has, where the call matches it
  record Given (c : Call E) : Type 0 where
    pub some : SomeSize c.request.source
    pub pixels : Sized (c.request.source.width * c.request.channels) c.request.source.height (image c.source.numbers c.source.elements)

  given : (c : Call E) (d : Numbers) → Matched c.request d c.source.numbers → Sound c.source.numbers (length c.source.elements) → Given c
  given c d m ok =
      let r = c.request in
      let s = c.source.numbers in
      let xs = c.source.elements in
      let wide : s.width * s.channels ≡ r.source.width * r.channels = ap₂ (λ a b. a * b) m.source_width m.source_channels in
      record {
        some = record { width = omega (arith, ok.some_width, m.source_width); height = omega (arith, ok.some_height, m.source_height) };
        pixels =
            subst (λ (a : ℕ). Sized a r.source.height (image s xs)) wide
            (subst (λ (a : ℕ). Sized (s.width * s.channels) a (image s xs)) m.source_height (image_sized s xs ok));
      }

  -- the value of a plan for these stores, whatever the depth
  pub value_sized : (c : Call E) (d : Numbers) (depth : ℕ) → Shaped c.meaning → Matched c.request d c.source.numbers → Sound c.source.numbers (length c.source.elements) → 0 < d.width → 0 < d.height → Sized (row_length d) d.height (plan_value c depth)
  value_sized c d depth shaped m ok w h =
      let r = c.request in
      let g = given c d m ok in
      let v = plan_sized c.meaning r.channels depth shaped r.scaler r.source r.target _ g.some
      (record { width = omega (arith, m.width); height = omega (arith, m.height) }) g.pixels in
      let wide : r.target.width * r.channels ≡ d.width * d.channels = sym (ap₂ (λ a b. a * b) m.width m.channels) in
      subst (λ (a : ℕ). Sized a d.height (plan_value c depth)) wide
      (subst (λ (a : ℕ). Sized (r.target.width * r.channels) a (plan_value c depth)) (sym m.height) v)

  -- between equal sizes it is the source
  pub value_copied : (c : Call E) (d : Numbers) (depth : ℕ) → Matched c.request d c.source.numbers → Sound c.source.numbers (length c.source.elements) → same_size c.request.source c.request.target ≡ true → plan_value c depth ≡ image c.source.numbers c.source.elements
  value_copied c d depth m ok e =
      let g = given c d m ok in
      plan_copied c.meaning c.request.channels depth c.request.source (image c.source.numbers c.source.elements) g.some g.pixels c.request.scaler c.request.target e

module _ {E : Type 0} (size : ℕ) (deep : Bool) where
  inside_over : (c : Call E) (s : Store E) (x y : ℕ) → granted ≡ answer_to size deep c s → Inside (area s.numbers c.window) x y → over size deep c s x y ≡ true
  unfolding over
  inside_over c s x y ok i =
      and_from (is_granted (answer_to size deep c s)) (covers (area s.numbers c.window) x y)
      (ap is_granted (sym ok)) (covers_inside (area s.numbers c.window) x y i)

  due_is : (c : Call E) (s : Store E) (x y : ℕ) → image_pixel s.numbers.channels (plan_value c s.numbers.bit_depth) (x - (area s.numbers c.window).left) (y - (area s.numbers c.window).top) ≡ due size deep c s x y
  unfolding due
  due_is c s x y = refl

  -- a granted call with its plan's value in its window
  pub granted_step : (c : Call E) (s t : Store E) → Shaped c.meaning → granted ≡ answer_to size deep c s → t.numbers ≡ s.numbers → t.elements ≡ stamped s.numbers c.window (plan_value c s.numbers.bit_depth) s.elements → Step size deep c s granted t
  granted_step c s t shaped ok same e =
      let n = s.numbers in
      let im = plan_value c n.bit_depth in
      let a : Allowed (asked c n (length s.elements)) c.window = allowed size deep (asked c n (length s.elements)) ok in
      let v = value_sized c (window_numbers n c.window) n.bit_depth shaped a.resample.matched a.resample.source a.resample.target.some_width a.resample.target.some_height in
      let l : LaidIn n (area n c.window) im s.elements t.elements =
      subst (LaidIn n (area n c.window) im s.elements) (sym e) (laid_in c.window (asked c n (length s.elements)) im s.elements a refl v.even) in
      record {
        numbers = same;
        length_kept = l.length_kept;
        answered = ok;
        inside = λ x y o. ap (λ m. pixel m t.elements x y) same ∙ (l.pixels x y (over_is size deep c s x y o).inside ∙ due_is c s x y);
        outside = λ k d out. l.gaps k d (λ x y i b. out x y i (inside_over c s x y ok b));
      }

  -- a refused call with the sheet as it was
  pub refused_step : (c : Call E) (s t : Store E) (n : ℕ) (vs : List ℕ) → refused n vs ≡ answer_to size deep c s → t.numbers ≡ s.numbers → t.elements ≡ s.elements → Step size deep c s (refused n vs) t
  refused_step c s t n vs told same e = record {
    numbers = same;
    length_kept = ap length e;
    answered = told;
    inside = λ x y o. let g = (over_is size deep c s x y o).ok in absurd (let z : ◌≡◌ {A = ℕ} 0 1 = cc in omega arith);
    outside = λ k d out. ap (λ xs. get_or xs k d) e;
  }

  -- both at once, of the answer that the caller was told
  pub answered_step : (c : Call E) (s t : Store E) (a : Answer) → Shaped c.meaning → a ≡ answer_to size deep c s → t.numbers ≡ s.numbers → (granted ≡ a → t.elements ≡ stamped s.numbers c.window (plan_value c s.numbers.bit_depth) s.elements) → (is_granted a ≡ false → t.elements ≡ s.elements) → Step size deep c s a t
  answered_step c s t granted shaped told same laid kept = granted_step c s t shaped told same (laid refl)
  answered_step c s t (refused n vs) shaped told same laid kept = refused_step c s t n vs told same (kept refl)
