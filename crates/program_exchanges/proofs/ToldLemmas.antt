-- The outcomes of a pull's parts, told as those of the pull.
use Rattle.std.proofs.Common.{◌⊎◌, inl, inr, ℕ, List, [], Option, Result, Ok, Err, OnErr, sym, append-nil}
use Rattle.program_exchanges.specs.Exchanges.{IsAnswered, IsRequestBegun}

module _ {A E : Type 0} where
  pub err_always : {P : Type 0} → (r : Result A E) → P → OnErr r P
  err_always (Ok v) h = tt
  err_always (Err e) h = h

  pub err_weaker : {P Q : Type 0} → (r : Result A E) → (P → Q) → OnErr r P → OnErr r Q
  err_weaker (Ok v) weaker h = tt
  err_weaker (Err e) weaker h = weaker h

pub or_else : {A P Q : Type 0} → (P → Q) → A ⊎ P → A ⊎ Q
or_else weaker (inl h) = inl h
or_else weaker (inr h) = inr (weaker h)

-- what was answered was sent whole
pub begun_whole : {R W : Type 0} (left : R → Option (List ℕ)) (reads : R → ℕ → List ℕ → R → Type 0) (holds : W → Option (List ℕ))
    (request : List ℕ) (r r2 : R) (w w2 : W) (status : ℕ) (body : List ℕ) → IsAnswered left reads holds request r r2 w w2 status body
    → IsRequestBegun left holds request r r2 w w2
begun_whole left reads holds request r r2 w w2 status body h = record {
  bytes = h.bytes;
  front = request;
  back = [];
  read = h.read;
  joined = sym (append-nil request);
  written = h.written;
}
