use Rattle.std.proofs.Common.{◌≡◌, ◌+◌, ℕ, List, [], ◌∷◌, ◌++◌, false, length, length-append, sym, ap, subst, arith}
use Rattle.connections.specs.Connections.{Connection, fresh}
use Rattle.connections.specs.Stories.{AreFree}
use Rattle.connections.proofs.table.new_table.Goals as goal

free_more : (table : List Connection) (c : Connection) → AreFree table → c ≡ fresh false 0 → AreFree (table ++ c ∷ [])
free_more [] c free is = (is, tt)
free_more (x ∷ table) c free is = (free.0, free_more table c free.1 is)

one_more : (table new : List Connection) (c : Connection) (n : ℕ) → new ≡ table ++ c ∷ [] → length table ≡ n → length new ≡ n + 1
one_more table new c n is so = omega (arith, so, ap (λ (t : List Connection). length t) is, length-append table (c ∷ []))

pub loop-preserved : goal.loop-preserved
loop-preserved c =
    let so = c.loop.invariant in
    let table : List Connection = c.loop.slots.items in
    let new : List Connection = c.push.new.self.items in
    let is : new ≡ table ++ c.in_ok-slot.slot ∷ [] = c.in-Ok.ensures.items in
    record {
      free = subst (λ (t : List Connection). AreFree t) (sym is) (free_more table c.in_ok-slot.slot so.free c.in_ok-slot.ensures);
      count = one_more table new c.in_ok-slot.slot c.loop.counter is so.count;
    }
