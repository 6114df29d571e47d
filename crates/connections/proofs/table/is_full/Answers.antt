use Rattle.std.proofs.Common.{◌≡◌, ◌≤◌, ◌<◌, ◌+◌, ◌-◌, ℕ, zero, suc, List, [], ◌∷◌, length, take, get_or, refl, ap, arith}
use Rattle.std.proofs.lemmas.List.Sums.{sum_by_more, sum_by-take-le}
use Rattle.connections.specs.Connections.{Connection, unsent, unsent_of}
use Rattle.connections.specs.declared.TheConstants.{MAX_UNSENT}
use Rattle.connections.proofs.table.is_full.Goals as goal

take_whole : (xs : List Connection) (n : ℕ) → length xs ≤ n → take n xs ≡ xs
take_whole [] zero h = refl
take_whole [] (suc n) h = refl
take_whole (x ∷ xs) zero h = absurd (omega arith)
take_whole (x ∷ xs) (suc n) h = ap (λ (t : List Connection). x ∷ t) (take_whole xs n (omega arith))

-- the bytes of one more slot
unsent_more : (slots : List Connection) (i : ℕ) (d : Connection) (n : ℕ) → i < length slots → d ≡ get_or slots i d
    → n ≡ unsent_of d → unsent (take (i + 1) slots) ≡ unsent (take i slots) + n
unsent_more slots i d n less is same =
    let more : unsent (take (i + 1) slots) ≡ unsent (take i slots) + unsent_of (get_or slots i d) =
    sum_by_more (λ (t : Connection). unsent_of t) slots i d less in
    let here : unsent_of d ≡ unsent_of (get_or slots i d) = ap (λ (t : Connection). unsent_of t) is in
    omega (arith, more, here, same)

still : (slots : List Connection) (i left n : ℕ) → left + unsent (take i slots) ≡ MAX_UNSENT → n ≤ left
    → unsent (take (i + 1) slots) ≡ unsent (take i slots) + n → (left - n) + unsent (take (i + 1) slots) ≡ MAX_UNSENT
still slots i left n so less more = omega (arith, so, less, more)

over : (slots : List Connection) (i left n : ℕ) → left + unsent (take i slots) ≡ MAX_UNSENT → left < n
    → unsent (take (i + 1) slots) ≡ unsent (take i slots) + n → MAX_UNSENT < unsent slots
over slots i left n so more is =
    let all : unsent (take (i + 1) slots) ≤ unsent slots = sum_by-take-le (λ (t : Connection). unsent_of t) slots (i + 1) in
    omega (arith, so, more, is, all)

within : (slots : List Connection) (i left : ℕ) → left + unsent (take i slots) ≡ MAX_UNSENT → length slots ≤ i → unsent slots ≤ MAX_UNSENT
within slots i left so whole = omega (arith, so, ap (λ (t : List Connection). unsent t) (take_whole slots i whole))

pub loop-slot-preserved : goal.loop-slot-preserved
loop-slot-preserved c =
    still c.args.slots.now c.loop-slot.slot-index c.loop-slot.left c.unsent-size.result c.loop-slot.invariant c.if-size-left.false
    (unsent_more c.args.slots.now c.loop-slot.slot-index c.slot-item.result c.unsent-size.result c.loop-slot-test.true c.slot-item.is c.unsent-size.ensures)

pub returns-then-size-left-clause-yes : goal.returns-then-size-left-clause-yes
returns-then-size-left-clause-yes c _ =
    over c.args.slots.now c.loop-slot.slot-index c.loop-slot.left c.unsent-size.result c.loop-slot.invariant c.if-size-left.true
    (unsent_more c.args.slots.now c.loop-slot.slot-index c.slot-item.result c.unsent-size.result c.loop-slot-test.true c.slot-item.is c.unsent-size.ensures)

pub returns-clause-no : goal.returns-clause-no
returns-clause-no c _ = within c.args.slots.now c.loop-slot.slot-index c.loop-slot.left c.loop-slot.invariant c.loop-slot-test.false
