-- Defines chains of steps, each a request with its reply and the updates that it applied.
-- Rules of this product: requests are answered one after another.
use Rattle.std.specs.Prelude.{◌≡◌, ℕ, List, [], ◌∷◌, map}
use Rattle.std.specs.List.{flat_map}
use Rattle.stamped_store.specs.Store.{Store, Update}

-- A `Done` is a step that was made: its request, the updates that it applied, in order, and its reply.
pub record Done : Type 0 where
  pub request : List ℕ
  pub applied : List Update
  pub reply : List ℕ

-- `requests_of done` are the requests of the steps `done`, in order.
abbrev pub requests_of : List Done → List (List ℕ)
requests_of done = map (λ d. d.request) done

-- `replies_of done` are the replies of the steps `done`, in order.
abbrev pub replies_of : List Done → List (List ℕ)
replies_of done = map (λ d. d.reply) done

-- `updates_of done` are the updates of the steps `done`, in order, with repeats.
abbrev pub updates_of : List Done → List Update
updates_of done = flat_map (λ d. d.applied) done

-- `steps s request us reply t` relates a step to the stores before and after it.
module _ (steps : Store → List ℕ → List Update → List ℕ → Store → Type 0) where
  -- `Chain done s t` holds if the steps `done`, one after another, lead from the store `s` to the store `t`.
  abbrev pub Chain : List Done → Store → Store → Type 0
  Chain [] s t = t ≡ s
  Chain (d ∷ done) s t = (m : Store) × steps s d.request d.applied d.reply m × Chain done m t
