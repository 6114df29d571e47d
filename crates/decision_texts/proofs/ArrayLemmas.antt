-- Reading an array of entities, as a loop does that puts each into a store.
use Rattle.std.proofs.Common.{◌≡◌, ◌∙◌, ℕ, suc, ◌++◌, Bool, true, false, not, List, [], ◌∷◌, take, Option, Some, None}
use Rattle.std.proofs.Common.{Result, Ok, Err, refl, sym, ap}
use Rattle.std.specs.Prelude.{⊤}
use Rattle.std.specs.List.{list_any}
use Rattle.serde_json.specs.Data.{Data}
use Rattle.json_words.specs.Json.{json_of}
use Rattle.json_words.specs.ReadsAs.{◌>>=◌, Fails, demand}
use Rattle.json_words.specs.Each.{each}
use Rattle.json_words.proofs.EachLemmas.{bind_ok}
use Rattle.json_words.specs.Arrays.{array_of, each_of}
use Rattle.json_words.proofs.Readings.{SoFar, before, items_read}
use Rattle.values.specs.declared.entity_uid.EntityUid.{EntityUid}
use Rattle.entity_data.specs.declared.entity.Entity.{Entity}
use Rattle.answer_lines.specs.declared.refusal.Refusal.{Refusal}
use Rattle.answer_lines.specs.Refusals.{bad_shape}
use Rattle.decision_texts.specs.Settings.{Reading}
use Rattle.decision_texts.specs.EntityArrays.{names, placed, entity_at, entities_in, entities_of}
use Rattle.decision_texts.specs.inner.Stores.{is_among, entity_after}

-- an earlier value states an entity of this uid
abbrev pub is_before : Reading → EntityUid → List Data → Bool
is_before r uid ds = list_any (λ earlier. names uid (r.entity earlier)) ds

placed_ok : (place : ℕ) (read : Result Entity Refusal) (x : Entity) → placed place read ≡ Ok x → read ≡ Ok x
placed_ok place (Ok y) x h = let same : y ≡ x = cc in ap Ok same
placed_ok place (Err refusal) x h = absurd cc

module _ (r : Reading) where
  stated : (ds : List Data) (k : ℕ) (d : Data) (y : Entity) → entity_at r ds k d ≡ Ok y → r.entity d ≡ Ok y
  unfolding entity_at
  stated ds k d y h =
      let a = bind_ok (placed k (r.entity d)) (λ (e : Entity). demand (bad_shape (Some k)) (not (is_before r e.uid (take k ds))) >>= λ (first : ⊤). Ok e) y h in
      let b = bind_ok (demand (bad_shape (Some k)) (not (is_before r a.0.uid (take k ds)))) (λ (first : ⊤). Ok a.0) y a.2 in
      let same : a.0 ≡ y = cc (b.2) in
      placed_ok k (r.entity d) a.0 a.1 ∙ ap Ok same

  -- the uids that values state are those of the entities that were read of them
  listed : (ds xs : List Data) (k : ℕ) (es : List Entity) (u : EntityUid) → each (entity_at r ds) k xs ≡ Ok es → is_before r u xs ≡ is_among u es
  unfolding each
  listed ds [] k es u h = let none : [] ≡ es = cc in ap (is_among u) none
  listed ds (x ∷ xs) k es u h =
      let a = bind_ok (entity_at r ds k x) (λ (y : Entity). each (entity_at r ds) (suc k) xs >>= λ (ys : List Entity). Ok (y ∷ ys)) es h in
      let b = bind_ok (each (entity_at r ds) (suc k) xs) (λ (ys : List Entity). Ok (a.0 ∷ ys)) es a.2 in
      let same : a.0 ∷ b.0 ≡ es = cc (b.2) in
      let here : r.entity x ≡ Ok a.0 = stated ds k x a.0 a.1 in
      rw (here, listed ds xs (suc k) b.0 u b.1) (ap (is_among u) same)

  -- behind those that were read an entity is read as among all
  pub at_next : (all left : Option (List Data)) (place : ℕ) (es : List Entity) (t : SoFar (entity_at r) all left place es) (d : Data) (rest : List Data) (read : Result Entity Refusal)
      → entity_after r es place d ≡ read → entity_at r (t.seen ++ d ∷ rest) place d ≡ read
  unfolding entity_at entity_after
  at_next all left place es t d rest read is =
      let same : (u : EntityUid) → is_before r u (take place (t.seen ++ d ∷ rest)) ≡ is_among u es =
      λ u. ap (is_before r u) (before (entity_at r) all left place es t (d ∷ rest)) ∙ listed (t.seen ++ []) t.seen 0 es u (t.read []) in
      (λ i. placed place (r.entity d) >>= λ (e : Entity). demand (bad_shape (Some place)) (not (same e.uid i)) >>= λ (first : ⊤). Ok e) ∙ is

  -- ---- the next entity, as it is kept

  pub after_new : (es : List Entity) (place : ℕ) (d : Data) (e : Entity) → placed place (r.entity d) ≡ Ok e → is_among e.uid es ≡ false → entity_after r es place d ≡ Ok e
  unfolding entity_after
  after_new es place d e is new = rw (is, new) refl

  pub after_again : (es : List Entity) (place : ℕ) (d : Data) (e : Entity) → placed place (r.entity d) ≡ Ok e → is_among e.uid es ≡ true → entity_after r es place d ≡ Err (bad_shape (Some place))
  unfolding entity_after
  after_again es place d e is again = rw (is, again) refl

  pub after_fault : (es : List Entity) (place : ℕ) (d : Data) (memory fault : Refusal) → Fails memory fault (placed place (r.entity d)) → Fails memory fault (entity_after r es place d)
  unfolding entity_after
  after_fault es place d memory fault fails other = rw (fails other) refl

  -- ---- all of the array

  pub array_read : (text : List ℕ) → entities_of r text ≡ each_of (bad_shape None) (entity_at r) (array_of text)
  unfolding entities_of entities_in array_of
  array_read text = items_read (bad_shape None) (entity_at r) (json_of text)

-- whether the store had the uid
pub had : (uid : EntityUid) (es : List Entity) (has first : Bool) → has ≡ not first → has ≡ is_among uid es → is_among uid es ≡ not first
had uid es has first is was = sym was ∙ is
