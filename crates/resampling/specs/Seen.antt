-- The code's plans and stores as the promise on sheets speaks of them.
use Rattle.std.specs.Prelude.{List}
use Rattle.image.specs.declared.image_store.ImageStore.{ImageStore}
use Rattle.image.specs.declared.image_store.ImageStoreMut.{ImageStoreMut}
use Rattle.image.specs.Stores.{elements, elements_mut}
use Rattle.convolution.specs.Meaning.{Meaning}
use Rattle.planner.specs.declared.plan.ResamplingPlan.{ResamplingPlan}
use Rattle.history.specs.Calls.{Store, Request, Window, Call}

module _ {T F : Type 0} where
  abbrev pub request_of : ResamplingPlan T F → Request
  request_of p = record { scaler = p.scaler; channels = p.channels; source = p.source_size; target = p.target_size }

module _ {T : Type 0} where
  abbrev pub sheet_of : ImageStoreMut T → Store T
  sheet_of s = record { numbers = s.numbers; elements = elements_mut s }

  abbrev pub source_of : ImageStore T → Store T
  source_of s = record { numbers = s.numbers; elements = elements s }

-- a call with its family's meaning, plan, window, source, work buffer and halves
abbrev pub call_of : {T F : Type 0} → Meaning T → ResamplingPlan T F → Window → ImageStore T → List T → List T → List T → Call T
call_of m p w s work first second = record {
  meaning = m;
  request = request_of p;
  window = w;
  source = source_of s;
  work = work;
  first = first;
  second = second;
}
