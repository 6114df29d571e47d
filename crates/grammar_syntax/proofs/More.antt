-- Forms made of the others, repetition, and the limit on nesting.
use Rattle.std.proofs.Common.{◌≡◌, ◌⊎◌, inl, inr, Bool, true, false, List, [], ◌∷◌, ◌++◌, Option, Some, None, refl, sym, ap, subst, ◌∙◌, append-nil}
use Rattle.grammar_syntax.specs.declared.token.Token.{Token}
use Rattle.grammar_syntax.specs.Kinds.{Kinds}
use Rattle.grammar_syntax.specs.Lang.{Lang}
use Rattle.grammar_syntax.specs.Lang as lang
use Rattle.grammar_syntax.specs.ParserCombinators.{Parser, Read, Stop, StopReason, TooDeep, ◌>>=◌, pure, either, too_deep, optional, gate}
use Rattle.grammar_syntax.specs.ParseResults.{Begins, sees}
use Rattle.grammar_syntax.proofs.Sets.{within, sees-append, sees_same}
use Rattle.grammar_syntax.proofs.Rules.{Rule, Levels, Keeps, ReadsFront, Stops, Opens, then}
use Rattle.grammar_syntax.proofs.Forms.{Starts, Leads, nothing, or, choice, took, left, cut_same, leads_empty, alive_empty}

-- ---- another language with the same pieces

pub record Same {A : Type 0} (L M : Lang A) : Type 0 where
  pub to : (ts : List Token) (a : A) → L ts a → M ts a
  pub from : (ts : List Token) (a : A) → M ts a → L ts a

pub same_begins : {A : Type 0} (L M : Lang A) (front : List Token) → Same L M → Begins L front → Begins M front
same_begins L M front s b = record { more = b.more; value = b.value; derived = s.to (front ++ b.more) b.value b.derived }

same_stops : {A : Type 0} (L M : Lang A) (front : List Token) → Same L M → (front ≡ []) ⊎ Begins L front → (front ≡ []) ⊎ Begins M front
same_stops L M front s (inl e) = inl e
same_stops L M front s (inr b) = inr (same_begins L M front s b)

pub same : {A : Type 0} (L M K N : Lang A) (p q : Parser A) (ks : Kinds) (D : Levels) → Same L M → Same K N → Rule L K p q ks D → Rule M N p q ks D
same L M K N p q ks D s t r = record {
  sound = λ ts a rest h. let x = r.sound ts a rest h in record { front = x.front; whole = x.whole; derived = s.to x.front a x.derived };
  complete = λ front a rest d h. r.complete front a rest (s.from front a d) h;
  viable = λ ts w rest h. let x = r.viable ts w rest h in record { front = x.front; whole = x.whole; begins = same_stops L M x.front s x.begins };
  wider = λ ts a d. t.to ts a (r.wider ts a (s.from ts a d));
  local = r.local;
  deep = λ d ts rest h. let x = r.deep d ts rest h in
      record { front = x.front; token = x.token; more = x.more; here = x.here; whole = x.whole; begins = same_begins K N (x.front ++ x.token ∷ []) t x.begins };
}

-- ---- where the nesting may not grow

module _ {A : Type 0} (K M N : Lang A) (p' q q' : Parser A) (ks js : Kinds) (D : Levels)
    (m : Rule M N q q' js D) (leads : Leads M ks js) (opens : D.Deeper → (t : Token) → ks t.kind ≡ true → Begins K (t ∷ [])) (alike : D.Equal → (ts : List Token) → p' ts ≡ too_deep ts) where
  not_read : (a : A) (w : StopReason) (ts rest : List Token) → Stop w ts ≡ Read a rest → ⊥
  not_read a w ts rest h = cc

  the_reason : (ts rest : List Token) (w : StopReason) → too_deep {A = A} ts ≡ Stop w rest → TooDeep ≡ w
  the_reason ts rest w h = cc

  same_place : (ts rest : List Token) (w : StopReason) → too_deep {A = A} ts ≡ Stop w rest → ts ≡ rest
  same_place ts rest w h = cc

  opened : D.Deeper → (ts rest : List Token) → sees ks ts ≡ true → ts ≡ rest → Opens (lang.◌or◌ K N) ts rest
  opened d [] rest h e = absurd (cc)
  opened d (t ∷ ts) rest h e =
      let b = opens d t h in
      record { front = []; token = t; more = ts; here = sym e; whole = e; begins = record { more = b.more; value = b.value; derived = inl b.derived } }

  opened_right : (ts rest : List Token) → Opens N ts rest → Opens (lang.◌or◌ K N) ts rest
  opened_right ts rest o = record { front = o.front; token = o.token; more = o.more; here = o.here; whole = o.whole; begins = record { more = o.begins.more; value = o.begins.value; derived = inr o.begins.derived } }

  begin_other : (front : List Token) → (front ≡ []) ⊎ Begins M front → (front ≡ []) ⊎ Begins (lang.◌or◌ lang.never M) front
  begin_other front (inl e) = inl e
  begin_other front (inr b) = inr (record { more = b.more; value = b.value; derived = inr b.derived })

  sound_closed : (ts : List Token) (a : A) (rest : List Token) → either ks too_deep q ts ≡ Read a rest → ReadsFront (lang.◌or◌ lang.never M) ts a rest
  sound_closed ts a rest h = elim (choice (sees ks ts) too_deep q ts (Read a rest) h) [
    | inl c ↦ absurd (not_read a TooDeep ts rest c.1)
    | inr c ↦ (let r = m.sound ts a rest c.1 in record { front = r.front; whole = r.whole; derived = inr r.derived })
  ]

  complete_closed : (front : List Token) (a : A) (rest : List Token) → lang.◌or◌ lang.never M front a → sees js rest ≡ false → either ks too_deep q (front ++ rest) ≡ Read a rest
  complete_closed front a rest (inl x) h = absurd x
  complete_closed front a rest (inr x) h = left (sees ks (front ++ rest)) too_deep q (front ++ rest) (leads front a rest x h) ∙ m.complete front a rest x h

  viable_closed : (ts : List Token) (w : StopReason) (rest : List Token) → either ks too_deep q ts ≡ Stop w rest → Stops (lang.◌or◌ lang.never M) ts rest
  viable_closed ts w rest h = elim (choice (sees ks ts) too_deep q ts (Stop w rest) h) [
    | inl c ↦ record { front = []; whole = same_place ts rest w c.1; begins = inl refl }
    | inr c ↦ (let r = m.viable ts w rest c.1 in record { front = r.front; whole = r.whole; begins = begin_other r.front r.begins })
  ]

  wider_closed : (ts : List Token) (a : A) → lang.◌or◌ lang.never M ts a → lang.◌or◌ K N ts a
  wider_closed ts a (inl x) = absurd x
  wider_closed ts a (inr x) = inr (m.wider ts a x)

  read_closed : (front : List Token) (b : Token) (more others : List Token) (a : A) → either ks too_deep q (front ++ b ∷ more) ≡ Read a (b ∷ more) → either ks p' q' (front ++ b ∷ others) ≡ Read a (b ∷ others)
  read_closed front b more others a h = elim (choice (sees ks (front ++ b ∷ more)) too_deep q (front ++ b ∷ more) (Read a (b ∷ more)) h) [
    | inl c ↦ absurd (not_read a TooDeep (front ++ b ∷ more) (b ∷ more) c.1)
    | inr c ↦ left (sees ks (front ++ b ∷ others)) p' q' (front ++ b ∷ others) (sees_same ks front b others more ∙ c.0) ∙ m.local.read front b more others a c.1
  ]

  stop_closed : (w : StopReason) → Keeps D.Equal w → (front : List Token) (b : Token) (more others : List Token) → either ks too_deep q (front ++ b ∷ more) ≡ Stop w (b ∷ more) → either ks p' q' (front ++ b ∷ others) ≡ Stop w (b ∷ others)
  stop_closed w keeps front b more others h = elim (choice (sees ks (front ++ b ∷ more)) too_deep q (front ++ b ∷ more) (Stop w (b ∷ more)) h) [
    | inl c ↦ (let e = the_reason (front ++ b ∷ more) (b ∷ more) w c.1 in
        took (sees ks (front ++ b ∷ others)) p' q' (front ++ b ∷ others) (sees_same ks front b others more ∙ c.0)
        ∙ alike (subst (Keeps D.Equal) (sym e) keeps) (front ++ b ∷ others)
        ∙ ap (λ z. Stop TooDeep (z ++ b ∷ others)) (cut_same front b more (same_place (front ++ b ∷ more) (b ∷ more) w c.1))
        ∙ ap (λ z. Stop z (b ∷ others)) e)
    | inr c ↦ left (sees ks (front ++ b ∷ others)) p' q' (front ++ b ∷ others) (sees_same ks front b others more ∙ c.0) ∙ m.local.stop w keeps front b more others c.1
  ]

  pub closed : Rule (lang.◌or◌ lang.never M) (lang.◌or◌ K N) (either ks too_deep q) (either ks p' q') js D
  closed = record {
    sound = sound_closed;
    complete = complete_closed;
    viable = viable_closed;
    wider = wider_closed;
    local = record { read = read_closed; stop = stop_closed };
    deep = λ d ts rest h. elim (choice (sees ks ts) too_deep q ts (Stop TooDeep rest) h) [ inl c ↦ opened d ts rest c.0 (same_place ts rest TooDeep c.1) | inr c ↦ opened_right ts rest (m.deep d ts rest c.1) ];
  }

closed_gate : {A : Type 0} (o : Bool) (p : Parser A) → false ≡ o → (ts : List Token) → gate o p ts ≡ too_deep ts
closed_gate false p h ts = refl
closed_gate true p h ts = absurd (cc)

-- Behind an opening token, or something else. The wider language may nest where the other may.
pub gated : {A : Type 0} (o o' : Bool) (L K M N : Lang A) (p p' q q' : Parser A) (ks js : Kinds) (D : Levels)
    → (o ≡ true → o' ≡ true) → (o ≡ true → Rule L K p p' js D) → Rule M N q q' js D → Starts L ks → Leads M ks js
    → (D.Deeper → (t : Token) → ks t.kind ≡ true → Begins (lang.gate o' K) (t ∷ []))
    → (D.Equal → o ≡ o')
    → Rule (lang.◌or◌ (lang.gate o L) M) (lang.◌or◌ (lang.gate o' K) N) (either ks (gate o p) q) (either ks (gate o' p') q') js D
gated true true L K M N p p' q q' ks js D w l m starts leads opens alike = or L K M N p p' q q' ks js D (l refl) m starts leads
gated true false L K M N p p' q q' ks js D w l m starts leads opens alike = absurd (let e = w refl in cc)
gated false o' L K M N p p' q q' ks js D w l m starts leads opens alike = closed (lang.gate o' K) M N (gate o' p') q q' ks js D m leads opens (λ e. closed_gate o' p' (alike e))

-- ---- perhaps

abbrev perhaps : {A : Type 0} → Lang A → Lang (Option A)
perhaps L = lang.◌or◌ (lang.◌>>=◌ L (λ a. lang.empty (Some a))) (lang.empty None)

perhaps_to : {A : Type 0} (L : Lang A) (ts : List Token) (o : Option A) → perhaps L ts o → lang.optional L ts o
perhaps_to L ts o (inl j) =
    let at : ts ≡ j.front = j.whole ∙ ap (λ z. j.front ++ z) j.second.0 ∙ append-nil j.front in
    subst (λ z. lang.optional L z o) (sym at) (subst (λ z. lang.optional L j.front z) (sym j.second.1) j.first)
perhaps_to L ts o (inr d) = subst (λ z. lang.optional L ts z) (sym d.1) d.0

perhaps_from : {A : Type 0} (L : Lang A) (ts : List Token) (o : Option A) → lang.optional L ts o → perhaps L ts o
perhaps_from L ts None d = inr (d, refl)
perhaps_from L ts (Some a) d = inl (record { front = ts; back = []; value = a; whole = sym (append-nil ts); first = d; second = (refl, refl) })

starts_some : {A B : Type 0} (L : Lang A) (M : A → Lang B) (ks : Kinds) → Starts L ks → Starts (lang.◌>>=◌ L M) ks
starts_some L M ks s ts b j = ap (sees ks) j.whole ∙ sees-append ks j.front j.back (s j.front j.value j.first)

pub maybe : {A : Type 0} (L K : Lang A) (p q : Parser A) (ks is js : Kinds) (D : Levels)
    → Rule L K p q is D → Starts L ks → within is js ≡ true → within ks js ≡ true → Rule (lang.optional L) (lang.optional K) (optional ks p) (optional ks q) js D
maybe L K p q ks is js D l starts ij kj =
    same (perhaps L) (lang.optional L) (perhaps K) (lang.optional K) (optional ks p) (optional ks q) js D
    (record { to = perhaps_to L; from = perhaps_from L }) (record { to = perhaps_to K; from = perhaps_from K })
    (or (lang.◌>>=◌ L (λ a. lang.empty (Some a))) (lang.◌>>=◌ K (λ a. lang.empty (Some a))) (lang.empty None) (lang.empty None)
    (p >>= (λ a. pure (Some a))) (q >>= (λ a. pure (Some a))) (pure None) (pure None) ks js D
    (then L K p q (λ a. lang.empty (Some a)) (λ a. lang.empty (Some a)) (λ a. pure (Some a)) (λ a. pure (Some a)) is js D l (λ a. nothing (Some a) js D) (λ a. leads_empty (Some a) is js ij) (λ a. alive_empty (Some a)))
    (nothing None js D)
    (starts_some L (λ a. lang.empty (Some a)) ks starts)
    (leads_empty None ks js kj))
