-- What is read at a key is what is read of the value that stands there.
use Rattle.std.proofs.Common.{◌≡◌, ◌∙◌, ℕ, ◌<◌, ◌≤◌, List, Bool, true, false, cond, Option, Some, option_map, Ordering, Less, Equal, Greater, refl, ap, arith}
use Rattle.std.specs.Prelude.{codes}
use Rattle.std.specs.Ordering.{nat_cmp, match_ordering, is_eq}
use Rattle.std.specs.Cmp.Lexicographic.{slice_cmp}
use Rattle.std.specs.Str.{bytes_eq}
use Rattle.std.proofs.lemmas.Map.Text.{is_eq-slice_cmp}
use Rattle.serde_json.specs.Data.{Data, null, boolean, number, string, array, object, Members, no_members, member, depth, members_depth}
use Rattle.serde_json.specs.Find.{get, get_member}
use Rattle.schema_types.specs.TypeShape.{type_of, type_at, fields_at, attributes_of, formed}
use Rattle.schema_types.specs.inner.TypeRule.{type_rule}

by_order : {A : Type 0} (o : Ordering) (b : Bool) (later here : Option A) → is_eq o ≡ b → cond b here later ≡ match_ordering o later here later
by_order Less true later here e = absurd cc
by_order Less false later here e = refl
by_order Equal true later here e = refl
by_order Equal false later here e = absurd cc
by_order Greater true later here e = absurd cc
by_order Greater false later here e = refl

mapped : {A B : Type 0} (f : A → B) (o : Ordering) (later : Option A) (here : A) → match_ordering o (option_map f later) (Some (f here)) (option_map f later) ≡ option_map f (match_ordering o later (Some here) later)
mapped f Less later here = refl
mapped f Equal later here = refl
mapped f Greater later here = refl

pub type_at-is : (k : List ℕ) (ms : Members) → type_at k ms ≡ option_map (type_of false) (get_member k ms)
unfolding type_of
type_at-is k no_members = refl
type_at-is k (member l d ms) =
    by_order (slice_cmp nat_cmp k l) (bytes_eq k l) (type_at k ms) (Some (type_of false d)) (is_eq-slice_cmp k l)
    ∙ rw (type_at-is k ms) (mapped (type_of false) (slice_cmp nat_cmp k l) (get_member k ms) d)

pub fields_at-is : (k : List ℕ) (ms : Members) → fields_at k ms ≡ option_map attributes_of (get_member k ms)
unfolding type_of
fields_at-is k no_members = refl
fields_at-is k (member l d ms) =
    by_order (slice_cmp nat_cmp k l) (bytes_eq k l) (fields_at k ms) (Some (attributes_of d)) (is_eq-slice_cmp k l)
    ∙ rw (fields_at-is k ms) (mapped attributes_of (slice_cmp nat_cmp k l) (get_member k ms) d)

-- The rule of a type, over what stands at its keys.
pub type_of-is : (a : Bool) (d : Data) → type_of a d ≡ type_rule a d
unfolding type_of formed
type_of-is a null = refl
type_of-is a (boolean b) = refl
type_of-is a (number n) = refl
type_of-is a (string s) = refl
type_of-is a (array ds) = refl
type_of-is a (object ms) = rw (type_at-is (codes "element") ms, fields_at-is (codes "attributes") ms) refl

-- what stands at a key is less deep
depth_member : (k : List ℕ) (ms : Members) (e : Data) → get_member k ms ≡ Some e → depth e ≤ members_depth ms
depth_member k no_members e at = absurd cc
depth_member k (member l d ms) e at = depth_at (slice_cmp nat_cmp k l) d ms e (λ later. depth_member k ms e later) at
  where
    some_is : (d e : Data) → (let s : Option Data = Some d in s) ≡ Some e → d ≡ e
    some_is d e h = cc

    depth_at : (o : Ordering) (d : Data) (ms : Members) (e : Data) → (get_member k ms ≡ Some e → depth e ≤ members_depth ms) → match_ordering o (get_member k ms) (Some d) (get_member k ms) ≡ Some e → depth e ≤ members_depth (member l d ms)
    depth_at Less d ms e later at = omega (arith, later at)
    depth_at Equal d ms e later at = let same = ap depth (some_is d e at) in omega (arith, same)
    depth_at Greater d ms e later at = omega (arith, later at)

pub depth_at_key : (k : List ℕ) (d e : Data) → get k d ≡ Some e → depth e < depth d
depth_at_key k null e at = absurd cc
depth_at_key k (boolean b) e at = absurd cc
depth_at_key k (number n) e at = absurd cc
depth_at_key k (string s) e at = absurd cc
depth_at_key k (array ds) e at = absurd cc
depth_at_key k (object ms) e at = omega (arith, depth_member k ms e at)
