use Rattle.std.proofs.Common.{◌≡◌, ◌≢◌, ℕ, ◌+◌, ◌-◌, ◌<◌, ◌≤◌, Bool, false, List, [], ◌∷◌, ◌++◌, length, take, drop, get_or, ap, sym, ◌∙◌, arith, length-drop, get_or-drop}
use Rattle.std.proofs.lemmas.Bool.Decides.{nat_tests}
use Rattle.std.proofs.lemmas.List.{drop_more, take_more}
use Rattle.std.specs.List.{list_any, slice_range}
use Rattle.http_streams.specs.Fields.{is_close_part, parts_after}
use Rattle.http_streams.proofs.fields.lists_close.Goals.{then-value-i-eq44+else-is_close_part, else-value-i-eq44}
use Rattle.http_streams.proofs.fields.lists_close.Goals as goal

comma : (p : List ℕ → Bool) (front bytes : List ℕ) (b : ℕ) → b ≡ 44 → p front ≡ false
    → list_any p (parts_after front (b ∷ bytes)) ≡ list_any p (parts_after [] bytes)
comma p front bytes b is unlike = rw (is, unlike)

other : (front bytes : List ℕ) (b : ℕ) → b ≢ 44 → parts_after front (b ∷ bytes) ≡ parts_after (front ++ b ∷ []) bytes
other front bytes b is = grind (arith, nat_tests)

at_comma : (value : List ℕ) (start i : ℕ) → i < length value → get_or value i 0 ≡ 44 → is_close_part (slice_range value start i) ≡ false
    → list_any is_close_part (parts_after (slice_range value start i) (drop i value))
    ≡ list_any is_close_part (parts_after (slice_range value (i + 1) (i + 1)) (drop (i + 1) value))
at_comma value start i inside is unlike =
    let none : i + 1 - (i + 1) ≡ 0 = omega arith in
    ap (λ (t : List ℕ). list_any is_close_part (parts_after (slice_range value start i) t)) (drop_more value i 0 inside)
    ∙ comma is_close_part (slice_range value start i) (drop (i + 1) value) (get_or value i 0) is unlike
    ∙ ap (λ (n : ℕ). list_any is_close_part (parts_after (take n (drop (i + 1) value)) (drop (i + 1) value))) (sym none)

at_other : (value : List ℕ) (start i : ℕ) → start ≤ i → i < length value → get_or value i 0 ≢ 44
    → parts_after (slice_range value start i) (drop i value) ≡ parts_after (slice_range value start (i + 1)) (drop (i + 1) value)
at_other value start i ordered inside is =
    let n = i - start in
    let len : i + 1 - start ≡ n + 1 = omega arith in
    let place : start + n ≡ i = omega arith in
    let fits : n < length (drop start value) = omega (arith, length-drop start value) in
    let last : get_or (drop start value) n 0 ≡ get_or value i 0 = get_or-drop start value n 0 ∙ ap (λ (k : ℕ). get_or value k 0) place in
    let grown : slice_range value start (i + 1) ≡ slice_range value start i ++ get_or value i 0 ∷ [] =
    ap (λ (k : ℕ). take k (drop start value)) len ∙ take_more (drop start value) n 0 fits ∙ ap (λ (b : ℕ). take n (drop start value) ++ b ∷ []) last in
    ap (parts_after (slice_range value start i)) (drop_more value i 0 inside)
    ∙ other (slice_range value start i) (drop (i + 1) value) (get_or value i 0) is
    ∙ ap (λ (t : List ℕ). parts_after t (drop (i + 1) value)) (sym grown)

pub loop-i-preserved : goal.loop-i-preserved
loop-i-preserved c =
    let value = c.args.value.now in
    let i = c.loop-i.i in
    let inside : i < length value = omega (arith, c.loop-i-test.true) in
    elim c.if-value-i-eq44.branch [
      | then-value-i-eq44+else-is_close_part w ↦ rw (w.start-is) (
        omega arith,
        c.loop-i.invariant.1 ∙ at_comma value c.loop-i.start i inside w.if-value-i-eq44.true (sym w.is_close_part.ensures ∙ w.if-is_close_part.false),
      )
      | else-value-i-eq44 w ↦ rw (w.start-is) (
        omega (arith, c.loop-i.invariant.0),
        c.loop-i.invariant.1 ∙ ap (list_any is_close_part) (at_other value c.loop-i.start i c.loop-i.invariant.0 inside w.if-value-i-eq44.false),
      )
    ]
