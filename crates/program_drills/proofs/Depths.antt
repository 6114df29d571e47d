-- What stands at a key nests no deeper than the object, so that its text reads back.
use Rattle.std.proofs.Common.{◌≡◌, ℕ, ◌≤◌, List, Option, Some, Ordering, Less, Equal, Greater, ap, arith, sym, subst}
use Rattle.std.proofs.Math.Nat.{le_trans}
use Rattle.std.specs.Ordering.{nat_cmp, match_ordering}
use Rattle.std.specs.Cmp.Lexicographic.{slice_cmp}
use Rattle.serde_json.specs.Data.{Data, null, boolean, number, string, array, object, Members, no_members, member, depth, members_depth}
use Rattle.serde_json.specs.Find.{get, get_member}
use Rattle.serde_json.specs.Read.{max_depth}
use Rattle.json_words.specs.Json.{json_of}
use Rattle.program_drills.specs.inner.Reading.{AreBytesOf}

member_depth : (k : List ℕ) (ms : Members) (e : Data) → get_member k ms ≡ Some e → depth e ≤ members_depth ms
member_depth k no_members e at = absurd cc
member_depth k (member l d ms) e at = by_order (slice_cmp nat_cmp k l) d ms e (λ later. member_depth k ms e later) at
  where
    some_is : (d e : Data) → (let s : Option Data = Some d in s) ≡ Some e → d ≡ e
    some_is d e h = cc

    by_order : (o : Ordering) (d : Data) (ms : Members) (e : Data) → (get_member k ms ≡ Some e → depth e ≤ members_depth ms)
        → match_ordering o (get_member k ms) (Some d) (get_member k ms) ≡ Some e → depth e ≤ members_depth (member l d ms)
    by_order Less d ms e later at = omega (arith, later at)
    by_order Equal d ms e later at = let same = ap depth (some_is d e at) in omega (arith, same)
    by_order Greater d ms e later at = omega (arith, later at)

pub depth_at : (k : List ℕ) (d e : Data) → get k d ≡ Some e → depth e ≤ depth d
depth_at k null e at = absurd cc
depth_at k (boolean b) e at = absurd cc
depth_at k (number n) e at = absurd cc
depth_at k (string s) e at = absurd cc
depth_at k (array ds) e at = absurd cc
depth_at k (object ms) e at = let inside = member_depth k ms e at in omega (arith, inside)

-- and its text states it
pub bytes_there : (k : List ℕ) (d v : Data) (bytes : List ℕ) → Some v ≡ get k d → depth d ≤ max_depth
    → (depth v ≤ max_depth → json_of bytes ≡ Some v) → AreBytesOf (get k d) (Some bytes)
bytes_there k d v bytes there fits back =
    let inside = depth_at k d v (sym there) in
    subst (λ (o : Option Data). AreBytesOf o (Some bytes)) there (back (le_trans inside fits))
