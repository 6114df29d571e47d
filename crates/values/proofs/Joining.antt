-- Words that are joined one after another.
use Rattle.std.proofs.Common.{◌≡◌, ◌-◌, ◌<◌, ℕ, suc, List, [], ◌∷◌, ◌++◌, refl, sym, ◌∙◌, ap, arith, length, take, drop}
use Rattle.std.specs.Prelude.{map, codes, slice_index_or}
use Rattle.std.specs.Borrow.{Bor}
use Rattle.std.proofs.lemmas.List.{append_assoc, append-nil}
use Rattle.std.proofs.Math.Seq.{take-length}
use Rattle.extensions.specs.plain.Words.{IsPath, AreIdents, joined_path}
use Rattle.values.specs.Paths.{path_of}

-- each word behind `::`
abbrev pub tails : List (Bor (List ℕ)) → List ℕ
tails [] = []
tails (w ∷ ws) = codes "::" ++ w.now ++ tails ws

pub joined_tails : (first : List ℕ) (ws : List (Bor (List ℕ))) → joined_path first (map (λ w. w.now) ws) ≡ first ++ tails ws
joined_tails first [] = sym (append-nil first)
joined_tails first (w ∷ ws) =
    ap (λ x. first ++ codes "::" ++ x) (joined_tails w.now ws)
    ∙ append_assoc first (codes "::") (w.now ++ tails ws)

pub path_of-idents : (ws : List (List ℕ)) → 0 < length ws → AreIdents ws → IsPath (path_of ws)
path_of-idents [] l h = absurd (omega arith)
path_of-idents (w ∷ ws) l h = (w, ws, h, refl)

-- before the first word is joined on
pub joined_first : (ws : List (Bor (List ℕ))) (d : Bor (List ℕ)) (joined : List ℕ) → 0 < length ws → joined ≡ (slice_index_or ws 0 d).now
    → joined ++ tails (drop 0 (take (length ws - 1) (drop 1 ws))) ≡ path_of (map (λ w. w.now) ws)
joined_first [] d joined l e = absurd (omega arith)
joined_first (w ∷ ws) d joined l e =
    let n : suc (length ws) - 1 ≡ length ws = omega arith in
    let all : take (suc (length ws) - 1) ws ≡ ws = ap (λ k. take k ws) n ∙ take-length ws in
    (λ i. e i ++ tails (all i)) ∙ sym (joined_tails w.now ws)
