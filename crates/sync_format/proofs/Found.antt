-- Each update that a message states was found in it as a name with a stamp.
use Rattle.std.proofs.Common.{◌≡◌, ◌∙◌, ℕ, suc, List, [], ◌∷◌, Option, Result, Ok, ap, subst}
use Rattle.std.specs.Prelude.{codes}
use Rattle.std.specs.Str.{bytes_eq}
use Rattle.std.specs.List.{AllByRecursion}
use Rattle.serde_json.specs.Data.{Data}
use Rattle.serde_json.specs.Find.{get, as_array}
use Rattle.json_words.specs.Each.{each, list_of}
use Rattle.json_words.specs.ReadsAs.{◌>>=◌, or_fault, demand}
use Rattle.json_words.specs.Json.{json_of, text_at}
use Rattle.json_words.specs.Keys.{has_only}
use Rattle.json_words.proofs.EachLemmas.{bind_ok}
use Rattle.values.specs.declared.name.Name.{Name}
use Rattle.stamped_store.specs.declared.entry.Stamp.{Stamp}
use Rattle.stamped_store.specs.Store.{Update, issued}
use Rattle.sync_format.specs.declared.fault.MessageFault.{MessageFault}
use Rattle.sync_format.specs.declared.fault.MessageFault.TheVariants.{NotJson, BadShape, OtherSchema}
use Rattle.sync_format.specs.declared.version.MessageVersion.{MessageVersion}
use Rattle.sync_format.specs.Summaries.{version_in, stamped_in}
use Rattle.sync_format.specs.Messages.{body_in, entry_by, entry_in, entries_of, entries_by, entries_in, is_kind}
use Rattle.sync_format.specs.Messages.{updates_by, updates_in, updates_stated}
use Rattle.sync_format.specs.Updates.{stamped}

abbrev read : {A : Type 0} → A → Result A MessageFault
read x = Ok x

read_is : {A : Type 0} (x y : A) → read x ≡ read y → x ≡ y
read_is x y h = cc

-- some value states this name with this stamp
abbrev pub IsFound : Update → Type 0
IsFound u = (version : MessageVersion) × (d : Data) × (stamped_in version d ≡ Ok (stamped u))

abbrev pub AreFound : List Update → Type 0
AreFound us = AllByRecursion IsFound us

abbrev made : Option (List ℕ) → Name × Stamp → Update
made body v = (v.0, issued v.1 body)

stamped_made : (body : Option (List ℕ)) (v : Name × Stamp) (u : Update) → made body v ≡ u → v ≡ stamped u
stamped_made body v u h = ap stamped h

abbrev with_body : MessageVersion → Data → Option (List ℕ) → Result Update MessageFault
with_body version d body = stamped_in version d >>= λ v. read (made body v)

abbrev of_body : MessageVersion → Data → Data → Result Update MessageFault
of_body version d found = body_in found >>= λ body. with_body version d body

entry_found : (version : MessageVersion) (d : Data) (u : Update) → entry_in version d ≡ read u → IsFound u
unfolding entry_in entry_by
entry_found version d u e =
    let a = bind_ok (demand BadShape (has_only (codes "body" ∷ codes "count" ∷ codes "name" ∷ codes "site" ∷ []) d)) (λ shape. or_fault BadShape (get (codes "body") d) >>= λ found. of_body version d found) u e in
    let b = bind_ok (or_fault BadShape (get (codes "body") d)) (λ found. of_body version d found) u a.2 in
    let c = bind_ok (body_in b.0) (λ body. with_body version d body) u b.2 in
    let v = bind_ok (stamped_in version d) (λ v. read (made c.0 v)) u c.2 in
    (version, d, v.1 ∙ ap (λ (x : Name × Stamp). Ok x) (stamped_made c.0 v.0 u (read_is (made c.0 v.0) u v.2)))

all_found : (version : MessageVersion) (k : ℕ) (ds : List Data) (us : List Update) → each (λ i d. entry_in version d) k ds ≡ read us → AreFound us
unfolding each
all_found version k [] us e = subst AreFound (read_is [] us e) tt
all_found version k (d ∷ ds) us e =
    let a = bind_ok (entry_in version d) (λ y. each (λ i x. entry_in version x) (suc k) ds >>= λ ys. read (y ∷ ys)) us e in
    let b = bind_ok (each (λ i x. entry_in version x) (suc k) ds) (λ ys. read (a.0 ∷ ys)) us a.2 in
    subst AreFound (read_is (a.0 ∷ b.0) us b.2) (entry_found version d a.0 a.1, all_found version (suc k) ds b.0 b.1)

entries_found : (version : MessageVersion) (d : Data) (us : List Update) → entries_in version d ≡ read us → AreFound us
unfolding entries_in entries_by entries_of
entries_found version d us e =
    let a = bind_ok (or_fault BadShape (get (codes "entries") d)) (λ found. or_fault BadShape (as_array found) >>= λ ds. entries_of (entry_in version) ds) us e in
    let b = bind_ok (or_fault BadShape (as_array a.0)) (λ ds. entries_of (entry_in version) ds) us a.2 in
    all_found version 0 (list_of b.0) us b.2

-- ---- the whole
module _ {U : Type 0} (entries : Data → Result (List U) MessageFault) (label : List ℕ) where
  abbrev of_entries : List ℕ → List U → Result (List U) MessageFault
  of_entries schema us = demand OtherSchema (bytes_eq schema label) >>= λ same. read us

  abbrev of_schema : Data → List ℕ → Result (List U) MessageFault
  of_schema d schema = entries d >>= λ us. of_entries schema us

  abbrev of_kind : Data → List ℕ → Result (List U) MessageFault
  of_kind d kind = demand BadShape (is_kind kind) >>= λ updating. or_fault BadShape (text_at (codes "schema") d) >>= λ schema. of_schema d schema

  abbrev of_shape : Data → Result (List U) MessageFault
  of_shape d = or_fault BadShape (text_at (codes "kind") d) >>= λ kind. of_kind d kind

  -- what is read after the version are the entries
  pub are_entries : (d : Data) (us : List U) → updates_by entries label d ≡ read us → entries d ≡ read us
  unfolding updates_by
  are_entries d us e =
      let c = bind_ok (demand BadShape (has_only (codes "entries" ∷ codes "kind" ∷ codes "schema" ∷ codes "version" ∷ []) d)) (λ shape. of_shape d) us e in
      let f = bind_ok (or_fault BadShape (text_at (codes "kind") d)) (λ kind. of_kind d kind) us c.2 in
      let g = bind_ok (demand BadShape (is_kind f.0)) (λ updating. or_fault BadShape (text_at (codes "schema") d) >>= λ schema. of_schema d schema) us f.2 in
      let h = bind_ok (or_fault BadShape (text_at (codes "schema") d)) (λ schema. of_schema d schema) us g.2 in
      let s = bind_ok (entries d) (λ vs. of_entries h.0 vs) us h.2 in
      let o = bind_ok (demand OtherSchema (bytes_eq h.0 label)) (λ same. read s.0) us s.2 in
      s.1 ∙ o.2

value_found : (label : List ℕ) (d : Data) (us : List Update) → updates_in label d ≡ read us → AreFound us
unfolding updates_in
value_found label d us e =
    let b = bind_ok (version_in d) (λ version. updates_by (entries_in version) label d) us e in
    entries_found b.0 d us (are_entries (entries_in b.0) label d us b.2)

pub stated_found : (label bytes : List ℕ) (us : List Update) → updates_stated label bytes ≡ Ok us → AreFound us
unfolding updates_stated
stated_found label bytes us e =
    let a = bind_ok (or_fault NotJson (json_of bytes)) (λ d. updates_in label d) us e in
    value_found label a.0 us a.2
