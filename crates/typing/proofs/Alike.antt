-- Judgements see the known pairs as a set.
use Rattle.std.specs.Prelude.{List, [], ◌∷◌, ◌++◌, Bool, Contains}
use Rattle.std.specs.Bool.{Decides}
use Rattle.std.proofs.Common.{inl, inr, sym, subst}
use Rattle.grammar_core.specs.declared.expr.Expr.{Expr}
use Rattle.typing.specs.Types.{StaticType}
use Rattle.typing.specs.Environment.{Environment}
use Rattle.typing.specs.declared.fault.TypeFault.{TypeFault}
use Rattle.typing.specs.Gained
use Rattle.typing.specs.Gained.{Capability, CapabilityList, InBoth, OrGains, has_gains}
use Rattle.typing.specs.Typing
use Rattle.typing.specs.Typing.{Types, TypesEach}
use Rattle.typing.specs.Faults
use Rattle.typing.specs.Faults.{Faults, FaultsEach}
use Rattle.typing.specs.Laws.{AreSameCapabilities, CapabilitiesAreASet}
use Rattle.std.proofs.lemmas.List.Elements.{Contains-append_cases}
use Rattle.plain.proofs.Members.{Contains-here, Contains-there, Contains-cases, Contains-none}
use Rattle.typing.proofs.KnownPairs.{in_both, in_both_holds}

pub both_members : {L M N : CapabilityList} → InBoth L M N → (p : Capability) → Contains N p → Contains L p × Contains M p
both_members Gained.both_none p c = Contains-none p c
both_members (Gained.both_kept {p = x} {left = L} {right = M} {both = N} m h) p c = elim (Contains-cases x N p c) [
  | inl e ↦ (subst (λ y. Contains (x ∷ L) y) e (Contains-here x L), subst (λ y. Contains M y) e m)
  | inr d ↦ let r = both_members h p d in (Contains-there x L p r.0, r.1)
]
both_members (Gained.both_dropped {p = x} {left = L} {right = M} {both = N} n h) p c = let r = both_members h p c in (Contains-there x L p r.0, r.1)

members_both : {L M N : CapabilityList} → InBoth L M N → (p : Capability) → Contains L p → Contains M p → Contains N p
members_both Gained.both_none p c d = c
members_both (Gained.both_kept {p = x} {left = L} {right = M} {both = N} m h) p c d = elim (Contains-cases x L p c) [
  | inl e ↦ subst (λ y. Contains (x ∷ N) y) e (Contains-here x N)
  | inr l ↦ Contains-there x N p (members_both h p l d)
]
members_both (Gained.both_dropped {p = x} {left = L} {right = M} {both = N} n h) p c d = elim (Contains-cases x L p c) [
  | inl e ↦ absurd (n (subst (λ y. Contains M y) (sym e) d))
  | inr l ↦ members_both h p l d
]

joined_first : (K L : CapabilityList) (p : Capability) → Contains K p → Contains (K ++ L) p
joined_first [] L p c = Contains-none p c
joined_first (x ∷ K) L p c = elim (Contains-cases x K p c) [
  | inl e ↦ subst (λ y. Contains (x ∷ (K ++ L)) y) e (Contains-here x (K ++ L))
  | inr m ↦ Contains-there x (K ++ L) p (joined_first K L p m)
]

joined_second : (K L : CapabilityList) (p : Capability) → Contains L p → Contains (K ++ L) p
joined_second [] L p c = c
joined_second (x ∷ K) L p c = Contains-there x (K ++ L) p (joined_second K L p c)

one_way : (K L M N : CapabilityList) → ((p : Capability) → Contains K p → Contains M p) → ((p : Capability) → Contains L p → Contains N p)
    → (p : Capability) → Contains (K ++ L) p → Contains (M ++ N) p
one_way K L M N f g p c = elim (Contains-append_cases K L p c) [
  | inl k ↦ joined_first M N p (f p k)
  | inr l ↦ joined_second M N p (g p l)
]

-- the same pairs

itself : (K : CapabilityList) → AreSameCapabilities K K
itself K = record { there = λ p c. c; back = λ p c. c }

joined : {K L M N : CapabilityList} → AreSameCapabilities K M → AreSameCapabilities L N → AreSameCapabilities (K ++ L) (M ++ N)
joined {K} {L} {M} {N} s t = record { there = one_way K L M N s.there t.there; back = one_way M N K L s.back t.back }

in_both_alike : {L M N P Q : CapabilityList} → AreSameCapabilities L P → AreSameCapabilities M Q → InBoth L M N → AreSameCapabilities N (in_both P Q)
in_both_alike {P} {Q} s t h = record {
  there = λ p c. let m = both_members h p c in members_both (in_both_holds P Q) p (s.there p m.0) (t.there p m.1);
  back = λ p c. let m = both_members (in_both_holds P Q) p c in members_both h p (s.back p m.0) (t.back p m.1);
}

or_alike : {t : StaticType} {L M N P Q : CapabilityList} → AreSameCapabilities L P → AreSameCapabilities M Q → OrGains t L M N
    → (B : CapabilityList) × AreSameCapabilities N B × OrGains t P Q B
or_alike s t Gained.or_gains_none = ([], itself [], Gained.or_gains_none)
or_alike {P} s t Gained.or_gains_left = (P, s, Gained.or_gains_left)
or_alike {P} {Q} s t (Gained.or_gains_both h) = (in_both P Q, in_both_alike s t h, Gained.or_gains_both (in_both_holds P Q))

known_alike : {K M : CapabilityList} (p : Capability) (r : Bool) → AreSameCapabilities K M → Decides r (Contains K p) → Decides r (Contains M p)
known_alike p r s d = (λ e. s.there p (d.0 e), λ c. d.1 (s.back p c))

module _ (env : Environment) where
  abbrev Alike : CapabilityList → Expr → StaticType → CapabilityList → Type 0
  Alike M x t L = (N : CapabilityList) × AreSameCapabilities L N × Types env M x t N

  mutual
    types_alike : {K M L : CapabilityList} {x : Expr} {t : StaticType} → AreSameCapabilities K M → Types env K x t L → Alike M x t L
    types_alike s (Typing.types_literal l) = ([], itself [], Typing.types_literal l)
    types_alike s (Typing.types_variable x) = ([], itself [], Typing.types_variable x)
    types_alike s (Typing.types_unary op a h e) = ([], itself [], Typing.types_unary op a (types_alike s h).2 e)
    types_alike s (Typing.and_of_false a b h) = ([], itself [], Typing.and_of_false a b (types_alike s h).2)
    types_alike s (Typing.and_of_both a b h p g i) =
        let f = types_alike s h in
        let r = types_alike (joined s f.1) g in
        (f.0 ++ r.0, joined f.1 r.1, Typing.and_of_both a b f.2 p r.2 i)
    types_alike s (Typing.or_of_true a b h) = ([], itself [], Typing.or_of_true a b (types_alike s h).2)
    types_alike s (Typing.or_of_false a b h g i) =
        let r = types_alike s g in (r.0, r.1, Typing.or_of_false a b (types_alike s h).2 r.2 i)
    types_alike s (Typing.or_of_both a b h g i l) =
        let f = types_alike s h in
        let r = types_alike s g in
        let o = or_alike f.1 r.1 l in
        (o.0, o.1, Typing.or_of_both a b f.2 r.2 i o.2)
    types_alike s (Typing.if_of_true a b c h g) =
        let f = types_alike s h in
        let r = types_alike (joined s f.1) g in
        (f.0 ++ r.0, joined f.1 r.1, Typing.if_of_true a b c f.2 r.2)
    types_alike s (Typing.if_of_false a b c h g) =
        let r = types_alike s g in (r.0, r.1, Typing.if_of_false a b c (types_alike s h).2 r.2)
    types_alike s (Typing.if_of_both a b c h g i e l) =
        let f = types_alike s h in
        let r = types_alike (joined s f.1) g in
        let o = types_alike s i in
        (in_both o.0 (f.0 ++ r.0), in_both_alike o.1 (joined f.1 r.1) l, Typing.if_of_both a b c f.2 r.2 o.2 e (in_both_holds o.0 (f.0 ++ r.0)))
    types_alike s (Typing.types_decided op a b h) = ([], itself [], Typing.types_decided op a b h)
    types_alike s (Typing.types_binary op a b n h g e) = ([], itself [], Typing.types_binary op a b n (types_alike s h).2 (types_alike s g).2 e)
    types_alike s (Typing.types_field a k {is_known} h d e) =
        ([], itself [], Typing.types_field a k (types_alike s h).2 (known_alike (a, k) is_known s d) e)
    types_alike s (Typing.types_has a k {is_known} {t} h d e) =
        (has_gains t (a, k), itself _, Typing.types_has a k (types_alike s h).2 (known_alike (a, k) is_known s d) e)
    types_alike s (Typing.types_set xs h e) = ([], itself [], Typing.types_set xs (each_alike s h) e)
    types_alike s (Typing.types_record xs h) = ([], itself [], Typing.types_record xs (each_alike s h))
    types_alike s (Typing.types_literal_call called a h g) = ([], itself [], Typing.types_literal_call called a (types_alike s h).2 g)
    types_alike s (Typing.types_address_test called a i h e) = ([], itself [], Typing.types_address_test called a i (types_alike s h).2 e)
    types_alike s (Typing.types_call called a b h g e) = ([], itself [], Typing.types_call called a b (types_alike s h).2 (types_alike s g).2 e)

    each_alike : {K M : CapabilityList} {xs : List Expr} {ts : List StaticType} → AreSameCapabilities K M → TypesEach env K xs ts → TypesEach env M xs ts
    each_alike s Typing.types_none = Typing.types_none
    each_alike s (Typing.types_more h hs) = Typing.types_more (types_alike s h).2 (each_alike s hs)

  mutual
    faults_alike : {K M : CapabilityList} {x : Expr} {n : TypeFault} → AreSameCapabilities K M → Faults env K x n → Faults env M x n
    faults_alike s (Faults.fault_in_operand o h) = Faults.fault_in_operand o (faults_each_alike s h)
    faults_alike s (Faults.fault_of_unary op a h e) = Faults.fault_of_unary op a (types_alike s h).2 e
    faults_alike s (Faults.fault_of_binary op a b n h g e) = Faults.fault_of_binary op a b n (types_alike s h).2 (types_alike s g).2 e
    faults_alike s (Faults.fault_of_field a k {is_known} h d e) = Faults.fault_of_field a k (types_alike s h).2 (known_alike (a, k) is_known s d) e
    faults_alike s (Faults.fault_of_has a k {is_known} h d e) = Faults.fault_of_has a k (types_alike s h).2 (known_alike (a, k) is_known s d) e
    faults_alike s (Faults.fault_of_set xs h e) = Faults.fault_of_set xs (each_alike s h) e
    faults_alike s (Faults.no_literal called a i h n) = Faults.no_literal called a i (types_alike s h).2 n
    faults_alike s (Faults.fault_of_address_test called a i h e) = Faults.fault_of_address_test called a i (types_alike s h).2 e
    faults_alike s (Faults.fault_of_call called a b h g e) = Faults.fault_of_call called a b (types_alike s h).2 (types_alike s g).2 e
    faults_alike s (Faults.fault_left_of_and a b h) = Faults.fault_left_of_and a b (faults_alike s h)
    faults_alike s (Faults.left_of_and_no_boolean a b h n) = Faults.left_of_and_no_boolean a b (types_alike s h).2 n
    faults_alike s (Faults.fault_right_of_and a b h p g) =
        let f = types_alike s h in Faults.fault_right_of_and a b f.2 p (faults_alike (joined s f.1) g)
    faults_alike s (Faults.right_of_and_no_boolean a b h p g n) =
        let f = types_alike s h in Faults.right_of_and_no_boolean a b f.2 p (types_alike (joined s f.1) g).2 n
    faults_alike s (Faults.fault_left_of_or a b h) = Faults.fault_left_of_or a b (faults_alike s h)
    faults_alike s (Faults.left_of_or_no_boolean a b h n) = Faults.left_of_or_no_boolean a b (types_alike s h).2 n
    faults_alike s (Faults.fault_right_of_or a b h p g) = Faults.fault_right_of_or a b (types_alike s h).2 p (faults_alike s g)
    faults_alike s (Faults.right_of_or_no_boolean a b h p g n) = Faults.right_of_or_no_boolean a b (types_alike s h).2 p (types_alike s g).2 n
    faults_alike s (Faults.fault_in_test a b c h) = Faults.fault_in_test a b c (faults_alike s h)
    faults_alike s (Faults.test_no_boolean a b c h n) = Faults.test_no_boolean a b c (types_alike s h).2 n
    faults_alike s (Faults.fault_in_then a b c h p g) =
        let f = types_alike s h in Faults.fault_in_then a b c f.2 p (faults_alike (joined s f.1) g)
    faults_alike s (Faults.fault_in_only_else a b c h g) = Faults.fault_in_only_else a b c (types_alike s h).2 (faults_alike s g)
    faults_alike s (Faults.fault_in_else a b c h g i) =
        let f = types_alike s h in Faults.fault_in_else a b c f.2 (types_alike (joined s f.1) g).2 (faults_alike s i)
    faults_alike s (Faults.branches_differ a b c h g i e) =
        let f = types_alike s h in Faults.branches_differ a b c f.2 (types_alike (joined s f.1) g).2 (types_alike s i).2 e

    faults_each_alike : {K M : CapabilityList} {xs : List Expr} {n : TypeFault} → AreSameCapabilities K M → FaultsEach env K xs n → FaultsEach env M xs n
    faults_each_alike s (Faults.fault_here h) = Faults.fault_here (faults_alike s h)
    faults_each_alike s (Faults.fault_later h g) = Faults.fault_later (types_alike s h).2 (faults_each_alike s g)

pub capabilities_are_a_set : CapabilitiesAreASet
capabilities_are_a_set env K M x s = (λ t L h. types_alike env s h, λ n h. faults_alike env s h)
