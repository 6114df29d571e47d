-- A step of a path.
use Rattle.std.proofs.Common.{◌≡◌, ℕ, ◌+◌, ◌<◌, ◌≤◌, ap, ◌∙◌, sym, List, ◌∷◌, length, drop, get_or, Some, None, add-one, drop-cons}
use Rattle.std.specs.Option.{option_and_then}
use Rattle.std.proofs.lemmas.List.{drop_all}
use Rattle.fault_places.specs.Forms.{Form, operand, unwrapped, node_at}

next : (path : List ℕ) (k : ℕ) → k < length path → drop k path ≡ get_or path k 0 ∷ drop (k + 1) path
next path k below = drop-cons path k 0 below ∙ ap (λ j. get_or path k 0 ∷ drop j path) (sym (add-one k))

pub node-step : (f g h : Form) (path : List ℕ) (k : ℕ) → k < length path → Some g ≡ operand f (get_or path k 0) → h ≡ unwrapped g
    → node_at h (drop (k + 1) path) ≡ node_at f (drop k path)
node-step f g h path k below found bare =
    ap (λ x. node_at x (drop (k + 1) path)) bare
    ∙ ap (option_and_then (λ x. node_at (unwrapped x) (drop (k + 1) path))) found
    ∙ ap (node_at f) (sym (next path k below))

pub node-none : (f : Form) (path : List ℕ) (k : ℕ) → k < length path → None ≡ operand f (get_or path k 0) → None ≡ node_at f (drop k path)
node-none f path k below found =
    ap (option_and_then (λ x. node_at (unwrapped x) (drop (k + 1) path))) found
    ∙ ap (node_at f) (sym (next path k below))

pub node-end : (f : Form) (path : List ℕ) (k : ℕ) → length path ≤ k → Some f ≡ node_at f (drop k path)
node-end f path k past = ap (node_at f) (sym (drop_all k path past))
