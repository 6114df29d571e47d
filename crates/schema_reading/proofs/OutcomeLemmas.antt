-- Bytes state one file at most, and are refused for one cause at most.
use Rattle.std.proofs.Common.{◌≡◌, ◌∙◌, ℕ, List, Option, Some, None, Result, Ok, Err, refl, sym, ap, subst}
use Rattle.serde_json.specs.Data.{Data}
use Rattle.json_words.specs.Json.{json_of}
use Rattle.schema_types.specs.declared.fault.SchemaFault.{SchemaFault}
use Rattle.schema_reading.specs.FileForm.{NamespaceOf, stated}
use Rattle.schema_reading.specs.Qualifying.{ResolvedSchema, qualified}
use Rattle.schema_reading.specs.Naming.{NamesRefused, no_record, unknown, not_json, bad_shape, bad_names}
use Rattle.schema_reading.specs.Records.{SomeIsNoRecord}
use Rattle.schema_reading.specs.Laws.{OneFile, OneRefusal, NotBoth}

abbrev some : {A : Type 0} → A → Option A
some x = Some x

abbrev ok : {A : Type 0} → A → Result A SchemaFault
ok x = Ok x

abbrev err : {A : Type 0} → SchemaFault → Result A SchemaFault
err f = Err f

some_same : {A : Type 0} (x y : A) → some x ≡ some y → x ≡ y
some_same x y e = cc

none_some : {B A : Type 0} {x : A} → None ≡ some x → B
none_some e = absurd cc

ok_same : {A : Type 0} (x y : A) → ok x ≡ ok y → x ≡ y
ok_same x y e = cc

err_same : {A : Type 0} (f g : SchemaFault) → (let r : Result A SchemaFault = Err f in r) ≡ Err g → f ≡ g
err_same f g e = cc

ok_err : {B A : Type 0} {x : A} {f : SchemaFault} → ok x ≡ Err f → B
ok_err e = absurd cc

-- the JSON, and the file, that bytes are
one_json : (bytes : List ℕ) (d e : Data) → json_of bytes ≡ some d → json_of bytes ≡ some e → d ≡ e
one_json bytes d e h k = some_same d e (sym h ∙ k)

one_stated : (bytes : List ℕ) (d e : Data) (ns : List NamespaceOf) (r : Result (List NamespaceOf) SchemaFault) → json_of bytes ≡ some d → json_of bytes ≡ some e → stated d ≡ ok ns → stated e ≡ r → ok ns ≡ r
one_stated bytes d e ns r h k a b = sym a ∙ ap stated (one_json bytes d e h k) ∙ b

one_space : (bytes : List ℕ) (d e : Data) (ns ms : List NamespaceOf) → json_of bytes ≡ some d → json_of bytes ≡ some e → stated d ≡ ok ns → stated e ≡ ok ms → ns ≡ ms
one_space bytes d e ns ms h k a b = ok_same ns ms (one_stated bytes d e ns (Ok ms) h k a b)

pub one_file : OneFile
one_file bytes s t a b =
    let same = one_space bytes a.value b.value a.namespaces b.namespaces a.json b.json a.shape b.shape in
    ok_same s t (sym a.named.found ∙ ap qualified same ∙ b.named.found)

one_cause : (ns ms : List NamespaceOf) (f g : SchemaFault) → ns ≡ ms → NamesRefused ns f → NamesRefused ms g → f ≡ g
one_cause ns ms _ _ same (no_record x) (no_record y) = refl
one_cause ns ms _ g same (no_record x) (unknown _ none is) = absurd (none (subst (λ l. SomeIsNoRecord l) same x))
one_cause ns ms f _ same (unknown _ none is) (no_record y) = absurd (none (subst (λ l. SomeIsNoRecord l) (sym same) y))
one_cause ns ms f g same (unknown _ none is) (unknown _ other was) = err_same f g (sym is ∙ ap qualified same ∙ was)

pub one_refusal : OneRefusal
one_refusal bytes _ _ (not_json h) (not_json k) = refl
one_refusal bytes _ g (not_json h) (bad_shape d _ k e) = none_some (sym h ∙ k)
one_refusal bytes _ g (not_json h) (bad_names d ns _ k e r) = none_some (sym h ∙ k)
one_refusal bytes f _ (bad_shape d _ h e) (not_json k) = none_some (sym k ∙ h)
one_refusal bytes f g (bad_shape d _ h e) (bad_shape x _ k i) = err_same f g (sym e ∙ ap stated (one_json bytes d x h k) ∙ i)
one_refusal bytes f g (bad_shape d _ h e) (bad_names x ns _ k i r) = ok_err (one_stated bytes x d ns (Err f) k h i e)
one_refusal bytes f _ (bad_names d ns _ h e r) (not_json k) = none_some (sym k ∙ h)
one_refusal bytes f g (bad_names d ns _ h e r) (bad_shape x _ k i) = ok_err (one_stated bytes d x ns (Err g) h k e i)
one_refusal bytes f g (bad_names d ns _ h e r) (bad_names x ms _ k i q) = one_cause ns ms f g (one_space bytes d x ns ms h k e i) r q

named_or : (ns ms : List NamespaceOf) (s : ResolvedSchema) (f : SchemaFault) → ns ≡ ms → (SomeIsNoRecord ns → ⊥) → qualified ns ≡ ok s → NamesRefused ms f → ⊥
named_or ns ms s _ same none found (no_record y) = none (subst (λ l. SomeIsNoRecord l) (sym same) y)
named_or ns ms s f same none found (unknown _ other is) = ok_err (sym found ∙ ap qualified same ∙ is)

pub not_both : NotBoth
not_both bytes s _ a (not_json h) = none_some (sym h ∙ a.json)
not_both bytes s f a (bad_shape d _ h e) = ok_err (one_stated bytes a.value d a.namespaces (Err f) a.json h a.shape e)
not_both bytes s f a (bad_names d ns _ h e r) = named_or a.namespaces ns s f (one_space bytes a.value d a.namespaces ns a.json h a.shape e) a.named.records a.named.found r
