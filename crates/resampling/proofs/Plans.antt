-- The stages of a plan may run with the buffers that it asks for.
use Rattle.std.proofs.Common.{◌≡◌, ℕ, suc, ◌+◌, ◌-◌, ◌*◌, ◌<◌, ◌≤◌, Bool, true, false, List, [], ◌∷◌, ◌++◌, length, get_or, take, drop, sym, refl, ap, ◌∙◌, subst, inl, inr, arith, length-drop}
use Rattle.std.proofs.lemmas.List.{drop_more, take_more, take_all, get_or-drop, nil_from_length}
use Rattle.std.proofs.lemmas.Bool.{cases_Bool, false≢true}
use Rattle.image.specs.declared.image_size.ImageSize.{ImageSize}
use Rattle.sampler.specs.Functions.{is_nearest}
use Rattle.planner.specs.declared.scaler.Scaler.{Scaler}
use Rattle.planner.specs.declared.stage.Stage.{Stage}
use Rattle.planner.specs.Stages.{stages_of}
use Rattle.planner.specs.Chains.{WellSized, Each, Linked}
use Rattle.planner.specs.Plans.{needs_kernel, work_of, half_of}
use Rattle.image.specs.Rows.{RowsFit, row, painted}
use Rattle.image.specs.declared.source_rows.SourceRows.{SourceRows}
use Rattle.convolution.specs.Meaning.{Meaning}
use Rattle.values.specs.Values.{composed}
use Rattle.resampling.specs.declared.multi_step_plan.Settings.{Settings}
use Rattle.resampling.specs.Running.{RowsOf, Runnable, AllRunnable, Roomy}

-- a list of two or more, by its ends
pub split : {X : Type 0} (xs : List X) (z : X) (k : ℕ) → 0 < k → length xs ≡ k + 1
    → xs ≡ get_or xs 0 z ∷ (take (k - 1) (drop 1 xs) ++ get_or xs k z ∷ [])
split xs z k h e =
    let ys = drop 1 xs in
    let n : length ys ≡ k = length-drop 1 xs ∙ omega arith in
    let front : xs ≡ get_or xs 0 z ∷ ys = drop_more xs 0 z (omega arith) in
    let less : k - 1 < length ys = omega arith in
    let whole : take (k - 1 + 1) ys ≡ ys = take_all (k - 1 + 1) ys (omega arith) in
    let at : get_or ys (k - 1) z ≡ get_or xs k z = get_or-drop 1 xs (k - 1) z ∙ ap (λ i. get_or xs i z) (omega arith) in
    front ∙ ap (λ s. get_or xs 0 z ∷ s) (sym whole ∙ take_more ys (k - 1) z less ∙ ap (λ w. take (k - 1) ys ++ w ∷ []) at)

pub only : {X : Type 0} (xs : List X) (z : X) → length xs ≡ 1 → xs ≡ get_or xs 0 z ∷ []
only xs z e = drop_more xs 0 z (omega arith) ∙ ap (λ s. get_or xs 0 z ∷ s) (nil_from_length (drop 1 xs) (length-drop 1 xs ∙ omega arith))

-- the depth is right for every stage that needs one
abbrev pub DeepEnough : Bool → ℕ → List Stage → Type 0
DeepEnough deep d [] = Unit {0}
DeepEnough deep d (st ∷ sts) = (needs_kernel st.kind ≡ true → deep ≡ true → (1 ≤ d) × (d ≤ 16)) × DeepEnough deep d sts

deep_all : (deep : Bool) (d : ℕ) (sts : List Stage) → (deep ≡ true → (1 ≤ d) × (d ≤ 16)) → DeepEnough deep d sts
deep_all deep d [] h = tt
deep_all deep d (st ∷ sts) h = (λ k. h, deep_all deep d sts h)

sampled_only : (b : Bool) (o : Scaler) (s t : ImageSize) (deep : Bool) (d : ℕ) → is_nearest o.function ≡ b → b ≡ true → DeepEnough deep d (stages_of o s t)
unfolding stages_of
sampled_only b o s t deep d e h = let n = e ∙ h in rw n ((λ k. absurd (false≢true k)), tt)

pub deep_enough : (o : Scaler) (s t : ImageSize) (deep : Bool) (d : ℕ) → (is_nearest o.function ≡ false → deep ≡ true → (1 ≤ d) × (d ≤ 16)) → DeepEnough deep d (stages_of o s t)
deep_enough o s t deep d h =
    elim (cases_Bool (is_nearest o.function)) [
      | inl e ↦ sampled_only _ o s t deep d refl e
      | inr e ↦ deep_all deep d (stages_of o s t) (h e)
    ]

pub all_runnable : {F : Type 0} (deep : Bool) (o : Settings F) (work : ℕ) (sts : List Stage) → Each WellSized sts → 0 < o.channels → o.channels ≤ 4 → DeepEnough deep o.depth sts → work_of o.route o.channels sts ≤ work → AllRunnable deep o work sts
all_runnable deep o work [] z p q d w = tt
all_runnable deep o work (st ∷ sts) z p q d w = (
  record { sized = z 0 st (omega arith); some_channels = p; few_channels = q; depth = d.0; enough = omega (arith, w) },
  all_runnable deep o work sts (λ k e l. z (suc k) e (omega arith)) p q d.1 (omega (arith, w)),
)

runnable_front : {F : Type 0} (deep : Bool) (o : Settings F) (work : ℕ) (us vs : List Stage) → AllRunnable deep o work (us ++ vs) → AllRunnable deep o work us
runnable_front deep o work [] vs r = tt
runnable_front deep o work (u ∷ us) vs r = (r.0, runnable_front deep o work us vs r.1)

runnable_back : {F : Type 0} (deep : Bool) (o : Settings F) (work : ℕ) (us vs : List Stage) → AllRunnable deep o work (us ++ vs) → AllRunnable deep o work vs
runnable_back deep o work [] vs r = r
runnable_back deep o work (u ∷ us) vs r = runnable_back deep o work us vs r.1

-- every stage but the last has room in a half
roomy : (c n : ℕ) (us : List Stage) (v : Stage) → half_of c (us ++ v ∷ []) ≤ n → Roomy c n us
roomy c n [] v h = tt
roomy c n (u ∷ []) v h = (omega (arith, h), tt)
roomy c n (u ∷ w ∷ us) v h = (omega (arith, h), roomy c n (w ∷ us) v (omega (arith, h)))

linked_front : (s t : ImageSize) (us : List Stage) (v : Stage) → Linked s t (us ++ v ∷ []) → Linked s v.source us
linked_front s t [] v l = sym l.0
linked_front s t (u ∷ us) v l = (l.0, linked_front u.target t us v l.1)

pub linked_last : (s t : ImageSize) (us : List Stage) (v : Stage) → Linked s t (us ++ v ∷ []) → v.target ≡ t
linked_last s t [] v l = l.1
linked_last s t (u ∷ us) v l = linked_last u.target t us v l.1

pub plan_runnable : {F : Type 0} (deep : Bool) (o : Settings F) (scaler : Scaler) (c : ℕ) (s t : ImageSize) (sts : List Stage) (work : ℕ)
    → o.route ≡ scaler.route → o.channels ≡ c → sts ≡ stages_of scaler s t → Each WellSized sts → 0 < c → c ≤ 4
    → (is_nearest scaler.function ≡ false → deep ≡ true → (1 ≤ o.depth) × (o.depth ≤ 16)) → work_of scaler.route c (stages_of scaler s t) ≤ work
    → AllRunnable deep o work sts
plan_runnable deep o scaler c s t sts work er ec es z p q d w =
    let deeper : DeepEnough deep o.depth sts = subst (DeepEnough deep o.depth) (sym es) (deep_enough scaler s t deep o.depth d) in
    let enough : work_of o.route o.channels sts ≤ work = rw (er, ec, es) w in
    all_runnable deep o work sts z (omega (arith, ec)) (omega (arith, ec)) deeper enough

-- what a chain counts on, where the stages of a plan are h, the us and v
pub record Parted {F : Type 0} (deep : Bool) (o : Settings F) (work : ℕ) (s t : ImageSize) (sts : List Stage) (h : Stage) (us : List Stage) (v : Stage) : Type 0 where
  pub begins : h.source ≡ s
  pub linked : Linked h.target v.source us
  pub ends : v.target ≡ t
  pub ready : Runnable deep o work h × AllRunnable deep o work us × Runnable deep o work v
  pub room : (n : ℕ) → half_of o.channels sts ≤ n → Roomy o.channels n (h ∷ us)

pub parted : {F : Type 0} (deep : Bool) (o : Settings F) (work : ℕ) (s t : ImageSize) (sts : List Stage) (h : Stage) (us : List Stage) (v : Stage) → sts ≡ h ∷ (us ++ v ∷ []) → Linked s t sts → AllRunnable deep o work sts → Parted deep o work s t sts h us v
parted deep o work s t sts h us v e chained runs =
    let l = subst (Linked s t) e chained in
    let r = subst (AllRunnable deep o work) e runs in
    record {
      begins = l.0;
      linked = linked_front h.target t us v l.1;
      ends = linked_last h.target t us v l.1;
      ready = (r.0, runnable_front deep o work us (v ∷ []) r.1, (runnable_back deep o work us (v ∷ []) r.1).0);
      room = λ n fits. roomy o.channels n (h ∷ us) v (omega (arith, ap (half_of o.channels) e));
    }

-- the same settings, stages and sizes give the same rows
pub same_value : {X : Type 0} (dst : List X) (im : List (List X)) (t depth : ℕ) (m m' : Meaning X) (c c' : ℕ) (sts sts' : List Stage) (s s' : ImageSize)
    → m ≡ m' → c ≡ c' → sts ≡ sts' → s ≡ s'
    → painted dst t (row (composed m c depth sts im)) s.height ≡ painted dst t (row (composed m' c' depth sts' im)) s'.height
same_value dst im t depth m m' c c' sts sts' s s' em ec el es = λ i. painted dst t (row (composed (em i) (ec i) depth (el i) im)) (es i).height

-- the rows of a size fit whatever the numbers are called
pub same_fit : (c c' stride len : ℕ) (s s' : ImageSize) → c ≡ c' → s ≡ s' → RowsFit (s'.width * c') stride s'.height len → RowsFit (s.width * c) stride s.height len
same_fit c c' stride len s s' ec es f = rw (ec, es) f

pub same_rows : {X : Type 0} (c c' : ℕ) (s s' : ImageSize) (r : SourceRows X) → c ≡ c' → s ≡ s' → RowsOf c' s' r → RowsOf c s r
same_rows c c' s s' r ec es f = rw (ec, es) f
