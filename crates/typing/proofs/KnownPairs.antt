-- What is known and learned, as tests.
use Rattle.std.specs.Prelude.{◌≡◌, ℕ, List, [], ◌∷◌, Bool, true, false, Contains, refl}
use Rattle.std.specs.Bool.{Decides, one_answer}
use Rattle.std.proofs.Common.{inl, inr, ap, ◌∙◌}
use Rattle.grammar_core.specs.declared.expr.Expr.{Expr}
use Rattle.values.specs.extensions.Decided.{Decided, is_proved}
use Rattle.values.specs.extensions.inner.Deciding.{decided_as, both_decided, text_decided}
use Rattle.typing.specs.Types
use Rattle.typing.specs.Types.{StaticType}
use Rattle.typing.specs.Gained
use Rattle.typing.specs.Gained.{Capability, CapabilityList, InBoth, OrGains}
use Rattle.typing.proofs.Same.{two, same_decided}
use Rattle.typing.proofs.Members.{told_iff, contains_decided, told_not}

pair_of : Expr → List ℕ → Capability
pair_of x k = (x, k)

pair_decided : (p q : Capability) → Decided (p ≡ q)
unfolding pair_of
pair_decided p q =
    decided_as (λ e. two pair_of e.0 e.1) (λ e. (ap (λ x. x.0) e, ap (λ x. x.1) e))
    (both_decided (same_decided p.0 q.0) (text_decided p.1 q.1))

pub known : (K : CapabilityList) (p : Capability) → Decided (Contains K p)
known K p = contains_decided pair_decided K p

abbrev pub knows : CapabilityList → Capability → Bool
knows K p = is_proved (known K p)

pub knows_is : (K : CapabilityList) (p : Capability) (r : Bool) → Decides r (Contains K p) → knows K p ≡ r
knows_is K p r h = one_answer (knows K p) r (told_iff (known K p)) h

pub knows_holds : (K : CapabilityList) (p : Capability) → Decides (knows K p) (Contains K p)
knows_holds K p = told_iff (known K p)

abbrev pub kept : Bool → Capability → CapabilityList → CapabilityList
kept true p L = p ∷ L
kept false p L = L

abbrev pub in_both : CapabilityList → CapabilityList → CapabilityList
in_both [] M = []
in_both (p ∷ L) M = kept (knows M p) p (in_both L M)

pub in_both_is : {L M N : CapabilityList} → InBoth L M N → in_both L M ≡ N
in_both_is Gained.both_none = refl
in_both_is (Gained.both_kept {p} {left = L} {right = M} {both = N} c h) =
    ap (λ b. kept b p (in_both L M)) ((told_iff (known M p)).1 c) ∙ ap (λ (P : CapabilityList). p ∷ P) (in_both_is h)
in_both_is (Gained.both_dropped {p} {left = L} {right = M} {both = N} n h) =
    ap (λ b. kept b p (in_both L M)) (told_not (known M p) n) ∙ in_both_is h

keep : (p : Capability) (L M N : CapabilityList) (d : Decided (Contains M p)) → InBoth L M N → InBoth (p ∷ L) M (kept (is_proved d) p N)
keep p L M N (inl c) h = Gained.both_kept c h
keep p L M N (inr n) h = Gained.both_dropped n h

pub in_both_holds : (L M : CapabilityList) → InBoth L M (in_both L M)
in_both_holds [] M = Gained.both_none
in_both_holds (p ∷ L) M = keep p L M (in_both L M) (known M p) (in_both_holds L M)

abbrev pub or_learns : StaticType → CapabilityList → CapabilityList → CapabilityList
or_learns Types.true_type L M = []
or_learns Types.false_type L M = L
or_learns t L M = in_both L M

pub or_learns_is : {t : StaticType} {L M N : CapabilityList} → OrGains t L M N → or_learns t L M ≡ N
or_learns_is Gained.or_gains_none = refl
or_learns_is Gained.or_gains_left = refl
or_learns_is (Gained.or_gains_both h) = in_both_is h

pub or_learns_holds : {t : StaticType} (L M : CapabilityList) → Types.IsBoolean t → OrGains t L M (or_learns t L M)
or_learns_holds L M Types.is_true = Gained.or_gains_none
or_learns_holds L M Types.is_false = Gained.or_gains_left
or_learns_holds L M Types.is_either = Gained.or_gains_both (in_both_holds L M)
