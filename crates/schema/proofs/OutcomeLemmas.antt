-- Bytes that state a schema are not refused, and are refused for one cause at most.
use Rattle.std.proofs.Common.{◌≡◌, ℕ, List, refl, subst}
use Rattle.schema_types.specs.Qualified.{common}
use Rattle.schema_types.specs.Cedar.{Cedar, IsTooLarge}
use Rattle.schema_types.specs.Law.{OneWritten}
use Rattle.schema_types.specs.declared.fault.SchemaFault.{SchemaFault}
use Rattle.schema_reading.specs.Qualifying.{ResolvedSchema}
use Rattle.schema_reading.specs.Laws as names
use Rattle.schema_reading.specs.Laws.{DeclaresOnce}
use Rattle.schema.specs.Schemas as schemas
use Rattle.schema.specs.Schemas.{StatedSchema, IsSound}
use Rattle.schema.specs.inner.ByNaming.{IsUnsound, IsParsedAs, IsNotParsed, NotBothParsed, OneNotParsed}
use Rattle.schema.specs.inner.ByNaming as parsed

sound_or_not : OneWritten → (s : ResolvedSchema) → DeclaresOnce s → IsSound s → (f : SchemaFault) → IsUnsound s f → ⊥
sound_or_not one s once sound _ (parsed.type_cycle endless) =
    let at = sound.has_small_expansions (common endless.name) (schemas.common endless.name endless.type endless.declared) in
    endless.has_no_expansion at.0 at.1
sound_or_not one s once sound _ (parsed.action_cycle ends cycle) = sound.no_cycle cycle
sound_or_not one s once sound _ (parsed.too_large ends no_cycle large) =
    let at = sound.has_small_expansions large.type large.is_type in
    at.2 (subst (λ (t : Cedar). IsTooLarge t) (one s.commons once.commons large.type large.whole at.0 large.is_expansion at.1) large.too_large)

schema_or_not : OneWritten → names.FilesDeclareOnce → names.OneFile → names.NotBoth → (bytes : List ℕ) (v : StatedSchema) (f : SchemaFault) → IsParsedAs bytes v → IsNotParsed bytes f → ⊥
schema_or_not one once file both bytes v _ is (parsed.naming f refused) = both bytes is.named f is.states refused
schema_or_not one once file both bytes v _ is (parsed.unsound s f states unsound) =
    sound_or_not one is.named (once bytes is.named is.states) is.sound f (subst (λ (t : ResolvedSchema). IsUnsound t f) (file bytes s is.named states is.states) unsound)

pub never_both : OneWritten → names.FilesDeclareOnce → names.OneFile → names.NotBoth → NotBothParsed
never_both one once file both bytes v f is refused = schema_or_not one once file both bytes v f is refused

one_cause : (s : ResolvedSchema) (f g : SchemaFault) → IsUnsound s f → IsUnsound s g → f ≡ g
one_cause s _ _ (parsed.type_cycle a) (parsed.type_cycle b) = refl
one_cause s _ _ (parsed.type_cycle a) (parsed.action_cycle ends b) = absurd (ends a)
one_cause s _ _ (parsed.type_cycle a) (parsed.too_large ends no_cycle b) = absurd (ends a)
one_cause s _ _ (parsed.action_cycle ends a) (parsed.type_cycle b) = absurd (ends b)
one_cause s _ _ (parsed.action_cycle ends a) (parsed.action_cycle ends' b) = refl
one_cause s _ _ (parsed.action_cycle ends a) (parsed.too_large ends' no_cycle b) = absurd (no_cycle a)
one_cause s _ _ (parsed.too_large ends no_cycle a) (parsed.type_cycle b) = absurd (ends b)
one_cause s _ _ (parsed.too_large ends no_cycle a) (parsed.action_cycle ends' b) = absurd (no_cycle b)
one_cause s _ _ (parsed.too_large ends no_cycle a) (parsed.too_large ends' no_cycle' b) = refl

cause_of : names.OneFile → names.NotBoth → names.OneRefusal → (bytes : List ℕ) (f g : SchemaFault) → IsNotParsed bytes f → IsNotParsed bytes g → f ≡ g
cause_of file both once bytes _ _ (parsed.naming f a) (parsed.naming g b) = once bytes f g a b
cause_of file both once bytes _ _ (parsed.naming f a) (parsed.unsound s g states b) = absurd (both bytes s f states a)
cause_of file both once bytes _ _ (parsed.unsound s f states a) (parsed.naming g b) = absurd (both bytes s g states b)
cause_of file both once bytes _ _ (parsed.unsound s f states a) (parsed.unsound t g states' b) =
    one_cause t f g (subst (λ (x : ResolvedSchema). IsUnsound x f) (file bytes s t states states') a) b

pub one_cause_only : names.OneFile → names.NotBoth → names.OneRefusal → OneNotParsed
one_cause_only file both once bytes f g a b = cause_of file both once bytes f g a b
