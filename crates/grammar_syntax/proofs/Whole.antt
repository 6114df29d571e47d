-- Whole lists of tokens: a language that is read exactly has one answer for each.
use Rattle.std.proofs.Common.{◌≡◌, ◌⊎◌, inl, inr, ℕ, ◌-◌, ◌<◌, Bool, true, false, List, [], ◌∷◌, ◌++◌, Result, Ok, Err, refl, sym, ap, subst, ◌∙◌, append_assoc, append-nil, length-append, arith, length}
use Rattle.std.proofs.lemmas.List.{append_cancel_right}
use Rattle.grammar_syntax.specs.declared.token.Token.{Token}
use Rattle.grammar_syntax.specs.declared.fault.StopCause.{StopCause}
use Rattle.grammar_syntax.specs.declared.fault.StopCause.TheVariants as halt
use Rattle.grammar_syntax.specs.declared.fault.SyntaxFault.{SyntaxFault}
use Rattle.grammar_syntax.specs.declared.fault.SyntaxFault.TheVariants as fault
use Rattle.grammar_syntax.specs.Kinds.{Kinds}
use Rattle.grammar_syntax.specs.Lang.{Lang}
use Rattle.grammar_syntax.specs.ParserCombinators.{Parser, ParseResult, Read, Stop, StopReason, Unexpected, TooDeep}
use Rattle.grammar_syntax.specs.ParsesTo.{ParsesTo}
use Rattle.grammar_syntax.specs.ParseResults.{Begins, StopsBefore, BreaksAt, GoesOn, IsRefusedWithin, IsAnswerWithin, ReadsWithin, ReadsFrontWithin, AnsweredWithin, HasOneTree, HasOneAnswerWithin, is_slot, sees, refusal_by, refusal_at, refusal_of, whole_of}
use Rattle.grammar_syntax.proofs.Firm.{Firm}
use Rattle.grammar_syntax.proofs.Rules.{Rule, Levels, Keeps, Opens}

-- ---- there is one place where a list leaves a language

record Further (a b r s : List Token) : Type 0 where
  more : List Token
  front : b ≡ a ++ more
  rest : r ≡ more ++ s

-- where one list is cut in two places
meet : (a b r s : List Token) → a ++ r ≡ b ++ s → Further a b r s ⊎ Further b a s r
meet [] b r s e = inl (record { more = b; front = refl; rest = e })
meet (x ∷ a) [] r s e = inr (record { more = x ∷ a; front = refl; rest = sym e })
meet (x ∷ a) (y ∷ b) r s e =
    let head : x ≡ y = cc in
    let tail : a ++ r ≡ b ++ s = cc in
    elim (meet a b r s tail) [
      | inl f ↦ inl (record { more = f.more; front = ap (λ z. z ∷ b) (sym head) ∙ ap (λ z. x ∷ z) f.front; rest = f.rest })
      | inr f ↦ inr (record { more = f.more; front = ap (λ z. z ∷ a) head ∙ ap (λ z. y ∷ z) f.front; rest = f.rest })
    ]

module _ {A : Type 0} (L : Lang A) where
  -- a list that begins something does so up to each of its tokens
  shorter_begins : (front : List Token) (t : Token) (more : List Token) → Begins L (front ++ t ∷ more) → Begins L (front ++ t ∷ [])
  shorter_begins front t more b = record {
    more = more ++ b.more;
    value = b.value;
    derived = subst (λ z. L z b.value) (append_assoc front (t ∷ more) b.more ∙ sym (append_assoc front (t ∷ []) (more ++ b.more))) b.derived;
  }

  pub no_break : (ts rest : List Token) (place : ℕ) (x : A) → L ts x → BreaksAt L ts place rest → ⊥
  no_break ts [] place x d b = b.stops x (subst (λ z. L z x) (b.whole ∙ append-nil b.front) d)
  no_break ts (t ∷ more) place x d b =
      b.stops (record { more = more; value = x; derived = subst (λ z. L z x) (b.whole ∙ sym (append_assoc b.front (t ∷ []) more)) d })

  -- the first of two places can't lie before the other
  not_before : (front rest more other : List Token) → StopsBefore L front rest → rest ≡ more ++ other → Begins L (front ++ more) → more ≡ []
  not_before front rest [] other stops e b = refl
  not_before front rest (t ∷ more) other stops e b =
      absurd (let here : StopsBefore L front (t ∷ (more ++ other)) = subst (StopsBefore L front) e stops in here (shorter_begins front t more b))

  pub record SameBreak (k j : ℕ) (a b r s : List Token) : Type 0 where
    pub place : k ≡ j
    pub front : a ≡ b
    pub rest : r ≡ s

  one_further : (ts r s : List Token) (k j : ℕ) (b : BreaksAt L ts k r) (c : BreaksAt L ts j s) → Further b.front c.front r s → SameBreak k j b.front c.front r s
  one_further ts r s k j b c f =
      let none = not_before b.front r f.more s b.stops f.rest (subst (Begins L) f.front c.begins) in
      let same : c.front ≡ b.front = f.front ∙ ap (λ z. b.front ++ z) none ∙ append-nil b.front in
      record { place = sym b.count ∙ ap length (sym same) ∙ c.count; front = sym same; rest = f.rest ∙ ap (λ z. z ++ s) none }

  pub one_break : (ts r s : List Token) (k j : ℕ) (b : BreaksAt L ts k r) (c : BreaksAt L ts j s) → SameBreak k j b.front c.front r s
  one_break ts r s k j b c = elim (meet b.front c.front r s (sym b.whole ∙ c.whole)) [
    | inl f ↦ one_further ts r s k j b c f
    | inr f ↦ (let same = one_further ts s r j k c b f in record { place = sym same.place; front = sym same.front; rest = sym same.rest })
  ]

-- ---- and with it a language without the limit on nesting

module _ {A : Type 0} (K : Lang A) where
  pub moved : (a b r s : List Token) → a ≡ b → r ≡ s → GoesOn K a r → GoesOn K b s
  moved a b r s e f g = subst (GoesOn K b) f (subst (λ z. GoesOn K z r) e g)

  same_front : (ts rest a b : List Token) → ts ≡ a ++ rest → ts ≡ b ++ rest → a ≡ b
  same_front ts rest a b e f = append_cancel_right a b rest (sym e ∙ f)

  on_by : (front rest : List Token) (o : Opens K (front ++ rest) rest) → front ≡ o.front → GoesOn K front rest
  on_by front rest o e = subst (GoesOn K front) (sym o.here) (subst (λ z. Begins K (z ++ o.token ∷ [])) (sym e) o.begins)

  -- the language goes on behind a front, by what it opens
  pub opened_at : (front rest : List Token) → Opens K (front ++ rest) rest → GoesOn K front rest
  opened_at front rest o = on_by front rest o (same_front (front ++ rest) rest front o.front refl o.whole)

module _ {A : Type 0} (L K : Lang A) where
  refused_by : (ts rest : List Token) (place : ℕ) (slot : Bool) → sees is_slot rest ≡ slot → (b : BreaksAt L ts place rest) → (GoesOn K b.front rest → ⊥) → IsRefusedWithin L K ts (refusal_by slot place)
  refused_by ts rest place true e b never = (rest, b, never, e)
  refused_by ts rest place false e b never = (rest, b, never, e)

  refused : (ts rest : List Token) (place : ℕ) (b : BreaksAt L ts place rest) → (GoesOn K b.front rest → ⊥) → IsRefusedWithin L K ts (refusal_at place rest)
  refused ts rest place b never = refused_by ts rest place (sees is_slot rest) refl b never

  -- why the tokens break where they do
  data Reason (front rest : List Token) (place : ℕ) (e : SyntaxFault) : Type 0 where
    never : (GoesOn K front rest → ⊥) → e ≡ refusal_at place rest → Reason front rest place e
    deeper : GoesOn K front rest → e ≡ fault.TooDeep place → Reason front rest place e

  record Told (ts : List Token) (e : SyntaxFault) : Type 0 where
    place : ℕ
    rest : List Token
    breaks : BreaksAt L ts place rest
    reason : Reason breaks.front rest place e

  told : (ts : List Token) (e : SyntaxFault) → IsRefusedWithin L K ts e → Told ts e
  told ts fault.NoMemory r = absurd r
  told ts (fault.Unexpected place) r = record { place = place; rest = r.0; breaks = r.1; reason = never r.2 (ap (λ z. refusal_by z place) (sym r.3)) }
  told ts (fault.Slot place) r = record { place = place; rest = r.0; breaks = r.1; reason = never r.2 (ap (λ z. refusal_by z place) (sym r.3)) }
  told ts (fault.TooDeep place) r = record { place = place; rest = r.0; breaks = r.1; reason = deeper r.2 refl }

  -- one place has one reason
  one_reason : (a b r s : List Token) (k j : ℕ) (d e : SyntaxFault) → SameBreak L k j a b r s → Reason a r k d → Reason b s j e → d ≡ e
  one_reason a b r s k j d e same (never n is) (never m is') = is ∙ ap (λ z. refusal_at z r) same.place ∙ ap (refusal_at j) same.rest ∙ sym is'
  one_reason a b r s k j d e same (never n is) (deeper g is') = absurd (n (moved K b a s r (sym same.front) (sym same.rest) g))
  one_reason a b r s k j d e same (deeper g is) (never n is') = absurd (n (moved K a b r s same.front same.rest g))
  one_reason a b r s k j d e same (deeper g is) (deeper h is') = is ∙ ap fault.TooDeep same.place ∙ sym is'

  reason_refuses : (ts rest : List Token) (place : ℕ) (e : SyntaxFault) (b : BreaksAt L ts place rest) → Reason b.front rest place e → IsRefusedWithin L K ts e
  reason_refuses ts rest place e b (never n is) = subst (IsRefusedWithin L K ts) (sym is) (refused ts rest place b n)
  reason_refuses ts rest place e b (deeper g is) = subst (IsRefusedWithin L K ts) (sym is) (rest, b, g)

-- ---- a language that is read exactly

-- p reads L, and the wider K goes on behind p's end where, and only where, a level of nesting too many stopped it.
pub record Limited {A : Type 0} (L K : Lang A) (p : Parser A) : Type 0 where
  pub past : (front : List Token) (b : Token) (more : List Token) (x : A) → p (front ++ b ∷ more) ≡ Read x (b ∷ more) → Begins K (front ++ b ∷ []) → ⊥
  pub bad : (front : List Token) (b : Token) (more : List Token) → p (front ++ b ∷ more) ≡ Stop Unexpected (b ∷ more) → Begins K (front ++ b ∷ []) → ⊥
  pub deep : (ts rest : List Token) → p ts ≡ Stop TooDeep rest → Opens K ts rest

module _ {A : Type 0} (L : Lang A) (p : Parser A) (ks : Kinds) (D : Levels) (rule : Rule L L p p ks D) (equal : D.Equal) (alive : Begins L []) where
  pub read_whole : (ts : List Token) (x : A) → L ts x → p ts ≡ Read x []
  read_whole ts x d = ap p (sym (append-nil ts)) ∙ rule.complete ts x [] d refl

  pub derived_whole : (ts : List Token) (x : A) → p ts ≡ Read x [] → L ts x
  derived_whole ts x e =
      let s = rule.sound ts x [] e in
      subst (λ z. L z x) (sym (s.whole ∙ append-nil s.front)) s.derived

  read_of : (a b : A) (ts us : List Token) → Read a ts ≡ Read b us → (a ≡ b) × (ts ≡ us)
  read_of a b ts us h = (cc, cc)

  read_or_stop : (a : A) (w : StopReason) (ts us : List Token) → Read a ts ≡ Stop w us → ⊥
  read_or_stop a w ts us h = cc

  some_or_none : (b : Token) (bs : List Token) → [] ≡ b ∷ bs → ⊥
  some_or_none b bs h = cc

  begun : (front : List Token) (b : Token) (begin : Begins L (front ++ b ∷ [])) → p (front ++ b ∷ begin.more) ≡ Read begin.value []
  begun front b begin = read_whole (front ++ b ∷ begin.more) begin.value (subst (λ z. L z begin.value) (append_assoc front (b ∷ []) begin.more) begin.derived)

  -- what is read up to a token goes on with no such token
  pub not_behind : (front : List Token) (b : Token) (more : List Token) (x : A) → p (front ++ b ∷ more) ≡ Read x (b ∷ more) → Begins L (front ++ b ∷ []) → ⊥
  not_behind front b more x e begin =
      some_or_none b begin.more (sym (read_of x begin.value (b ∷ begin.more) [] (sym (rule.local.read front b more begin.more x e) ∙ begun front b begin)).1)

  keeps : (w : StopReason) → Keeps D.Equal w
  keeps Unexpected = tt
  keeps TooDeep = equal

  pub not_at : (w : StopReason) (front : List Token) (b : Token) (more : List Token) → p (front ++ b ∷ more) ≡ Stop w (b ∷ more) → Begins L (front ++ b ∷ []) → ⊥
  not_at w front b more e begin =
      read_or_stop begin.value w [] (b ∷ begin.more) (sym (begun front b begin) ∙ rule.local.stop w (keeps w) front b more begin.more e)

  begins_at : (front : List Token) → (front ≡ []) ⊎ Begins L front → Begins L front
  begins_at front (inl e) = subst (Begins L) (sym e) alive
  begins_at front (inr b) = b

  cut_count : (ts front rest : List Token) → ts ≡ front ++ rest → length front ≡ length ts - length rest
  cut_count ts front rest e = omega (arith, ap length e, length-append front rest)

  pub breaks_behind : (ts : List Token) (x : A) (b : Token) (more : List Token) → p ts ≡ Read x (b ∷ more) → BreaksAt L ts (length ts - length (b ∷ more)) (b ∷ more)
  breaks_behind ts x b more e =
      let s = rule.sound ts x (b ∷ more) e in
      record {
        front = s.front;
        whole = s.whole;
        count = cut_count ts s.front (b ∷ more) s.whole;
        begins = record { more = []; value = x; derived = subst (λ z. L z x) (sym (append-nil s.front)) s.derived };
        stops = not_behind s.front b more x (ap p (sym s.whole) ∙ e);
      }

  stops_at : (w : StopReason) (ts front rest : List Token) → ts ≡ front ++ rest → p ts ≡ Stop w rest → StopsBefore L front rest
  stops_at w ts front [] whole e = λ x d.
      read_or_stop x w [] [] (sym (read_whole ts x (subst (λ z. L z x) (sym (whole ∙ append-nil front)) d)) ∙ e)
  stops_at w ts front (b ∷ more) whole e = not_at w front b more (ap p (sym whole) ∙ e)

  pub breaks_stop : (w : StopReason) (ts rest : List Token) → p ts ≡ Stop w rest → BreaksAt L ts (length ts - length rest) rest
  breaks_stop w ts rest e =
      let s = rule.viable ts w rest e in
      record {
        front = s.front;
        whole = s.whole;
        count = cut_count ts s.front rest s.whole;
        begins = begins_at s.front s.begins;
        stops = stops_at w ts s.front rest s.whole e;
      }

  pub one_tree : HasOneTree L
  one_tree ts x y d e = (read_of x y [] [] (sym (read_whole ts x d) ∙ read_whole ts y e)).0

  -- a language that nests nothing
  pub flat : D.Deeper → Limited L L p
  flat d = record { past = not_behind; bad = not_at Unexpected; deep = rule.deep d }

-- ---- the exits of a reader, and its answers

module _ {A : Type 0} (L K : Lang A) (p : Parser A) (ks : Kinds) (D : Levels) (rule : Rule L L p p ks D) (equal : D.Equal) (alive : Begins L []) (limited : Limited L K p) where
  -- behind what is read, and where reading stops, the wider language doesn't go on
  past_by : (front rest : List Token) (x : A) → p (front ++ rest) ≡ Read x rest → GoesOn K front rest → ⊥
  past_by front [] x e on = on
  past_by front (b ∷ more) x e on = limited.past front b more x e on

  bad_by : (front rest : List Token) → p (front ++ rest) ≡ Stop Unexpected rest → GoesOn K front rest → ⊥
  bad_by front [] e on = on
  bad_by front (b ∷ more) e on = limited.bad front b more e on

  deep_by : (front rest : List Token) → p (front ++ rest) ≡ Stop TooDeep rest → GoesOn K front rest
  deep_by front rest e = opened_at K front rest (limited.deep (front ++ rest) rest e)

  -- a refusal, with the place and the reason
  record Broken (ts : List Token) (e : SyntaxFault) : Type 0 where
    place : ℕ
    rest : List Token
    breaks : BreaksAt L ts place rest
    reason : Reason L K breaks.front rest place e

  broken_past : (ts : List Token) (x : A) (b : Token) (more : List Token) → p ts ≡ Read x (b ∷ more) → Broken ts (refusal_at (length ts - length (b ∷ more)) (b ∷ more))
  broken_past ts x b more e =
      let breaks = breaks_behind L p ks D rule equal alive ts x b more e in
      record { place = length ts - length (b ∷ more); rest = b ∷ more; breaks = breaks; reason = never (past_by breaks.front (b ∷ more) x (ap p (sym breaks.whole) ∙ e)) refl }

  broken_bad : (ts rest : List Token) → p ts ≡ Stop Unexpected rest → Broken ts (refusal_at (length ts - length rest) rest)
  broken_bad ts rest e =
      let breaks = breaks_stop L p ks D rule equal alive Unexpected ts rest e in
      record { place = length ts - length rest; rest = rest; breaks = breaks; reason = never (bad_by breaks.front rest (ap p (sym breaks.whole) ∙ e)) refl }

  broken_deep : (ts rest : List Token) → p ts ≡ Stop TooDeep rest → Broken ts (fault.TooDeep (length ts - length rest))
  broken_deep ts rest e =
      let breaks = breaks_stop L p ks D rule equal alive TooDeep ts rest e in
      record { place = length ts - length rest; rest = rest; breaks = breaks; reason = deeper (deep_by breaks.front rest (ap p (sym breaks.whole) ∙ e)) refl }

  broken_refuses : (ts : List Token) (e : SyntaxFault) → Broken ts e → IsRefusedWithin L K ts e
  broken_refuses ts e b = reason_refuses L K ts b.rest b.place e b.breaks b.reason

  part_read : (ts rest : List Token) (x : A) → p ts ≡ Read x rest → 0 < length rest
      → ReadsWithin L K ts (Err (refusal_of halt.Unexpected (length ts - length rest) rest))
  part_read ts [] x e some = absurd (omega (arith, some))
  part_read ts (b ∷ more) x e some =
      inr (broken_refuses ts (refusal_at (length ts - length (b ∷ more)) (b ∷ more)) (broken_past ts x b more e))

  halted_read : (ts rest : List Token) (h : StopCause) → ParsesTo (p ts) (Err h) rest
      → ReadsWithin L K ts (Err (refusal_of h (length ts - length rest) rest))
  halted_read ts rest halt.NoMemory g = inl refl
  halted_read ts rest halt.Unexpected g =
      inr (broken_refuses ts (refusal_at (length ts - length rest) rest) (broken_bad ts rest g))
  halted_read ts rest halt.TooDeep g =
      inr (broken_refuses ts (fault.TooDeep (length ts - length rest)) (broken_deep ts rest g))

  -- by what was read of the front
  pub answered_whole : (ts rest : List Token) (read : Result A StopCause) → ParsesTo (p ts) read rest
      → ReadsWithin L K ts (whole_of read (length ts - length rest) rest)
  answered_whole ts [] (Ok x) g = derived_whole L p ks D rule equal alive ts x g
  answered_whole ts (b ∷ more) (Ok x) g = part_read ts (b ∷ more) x g (omega arith)
  answered_whole ts rest (Err why) g = halted_read ts rest why g

  -- ---- the front of a list

  -- where reading stops for a token, no tree ends
  no_tree : Firm L p → (ts rest : List Token) (place : ℕ) (b : BreaksAt L ts place rest) → p ts ≡ Stop Unexpected rest → (x : A) → L b.front x → ⊥
  no_tree firm ts [] place b e = b.stops
  no_tree firm ts (t ∷ more) place b e = λ x. firm.at b.front t more x (ap p (sym b.whole) ∙ e)

  pub front_read : Firm L p → (ts rest : List Token) (r : Result A StopCause) → ParsesTo (p ts) r rest → ReadsFrontWithin L K ts r rest
  front_read firm ts rest (Ok x) g =
      let s = rule.sound ts x rest g in
      record { front = s.front; whole = s.whole; derived = s.derived; ends = past_by s.front rest x (ap p (sym s.whole) ∙ g) }
  front_read firm ts rest (Err halt.NoMemory) g = tt
  front_read firm ts rest (Err halt.Unexpected) g =
      let breaks = breaks_stop L p ks D rule equal alive Unexpected ts rest g in
      (breaks, bad_by breaks.front rest (ap p (sym breaks.whole) ∙ g), no_tree firm ts rest (length ts - length rest) breaks g)
  front_read firm ts rest (Err halt.TooDeep) g =
      let breaks = breaks_stop L p ks D rule equal alive TooDeep ts rest g in
      (breaks, deep_by breaks.front rest (ap p (sym breaks.whole) ∙ g))

  -- ---- what is too deep

  -- Where the wider language goes on at a break, reading stopped for its depth.
  pub deep_stop : (ts rest : List Token) (place : ℕ) (b : BreaksAt L ts place rest) → GoesOn K b.front rest → (o : ParseResult A) → p ts ≡ o
      → p ts ≡ Stop TooDeep rest
  deep_stop ts rest place b on (Read x []) e = absurd (no_break L ts rest place x (derived_whole L p ks D rule equal alive ts x e) b)
  deep_stop ts rest place b on (Read x (c ∷ more)) e =
      let other = breaks_behind L p ks D rule equal alive ts x c more e in
      let same = one_break L ts rest (c ∷ more) place (length ts - length (c ∷ more)) b other in
      absurd (past_by other.front (c ∷ more) x (ap p (sym other.whole) ∙ e) (moved K b.front other.front rest (c ∷ more) same.front same.rest on))
  deep_stop ts rest place b on (Stop Unexpected others) e =
      let other = breaks_stop L p ks D rule equal alive Unexpected ts others e in
      let same = one_break L ts rest others place (length ts - length others) b other in
      absurd (bad_by other.front others (ap p (sym other.whole) ∙ e) (moved K b.front other.front rest others same.front same.rest on))
  deep_stop ts rest place b on (Stop TooDeep others) e =
      let other = breaks_stop L p ks D rule equal alive TooDeep ts others e in
      let same = one_break L ts rest others place (length ts - length others) b other in
      e ∙ ap (Stop TooDeep) (sym same.rest)

  -- ---- the law of one answer

  only_tree : (ts : List Token) (x : A) → L ts x → (other : Result A SyntaxFault) → IsAnswerWithin L K ts other → other ≡ Ok x
  only_tree ts x d (Ok y) e = ap Ok (one_tree L p ks D rule equal alive ts y x e d)
  only_tree ts x d (Err e) r = absurd (let t = told L K ts e r in no_break L ts t.rest t.place x d t.breaks)

  only_refusal : (ts : List Token) (d : SyntaxFault) → Broken ts d → (other : Result A SyntaxFault) → IsAnswerWithin L K ts other → other ≡ Err d
  only_refusal ts d b (Ok y) e = absurd (no_break L ts b.rest b.place y e b.breaks)
  only_refusal ts d b (Err e) r =
      let t = told L K ts e r in
      ap Err (one_reason L K t.breaks.front b.breaks.front t.rest b.rest t.place b.place e d (one_break L ts t.rest b.rest t.place b.place t.breaks b.breaks) t.reason b.reason)

  answered_by : (ts : List Token) (e : SyntaxFault) → Broken ts e → AnsweredWithin L K ts
  answered_by ts e b = record { answer = Err e; comes = broken_refuses ts e b; only = only_refusal ts e b }

  answered : (ts : List Token) (o : ParseResult A) → p ts ≡ o → AnsweredWithin L K ts
  answered ts (Read x []) e = record {
    answer = Ok x;
    comes = derived_whole L p ks D rule equal alive ts x e;
    only = only_tree ts x (derived_whole L p ks D rule equal alive ts x e);
  }
  answered ts (Read x (b ∷ more)) e = answered_by ts (refusal_at (length ts - length (b ∷ more)) (b ∷ more)) (broken_past ts x b more e)
  answered ts (Stop Unexpected rest) e = answered_by ts (refusal_at (length ts - length rest) rest) (broken_bad ts rest e)
  answered ts (Stop TooDeep rest) e = answered_by ts (fault.TooDeep (length ts - length rest)) (broken_deep ts rest e)

  pub one_answer : HasOneAnswerWithin L K
  one_answer ts = answered ts (p ts) refl
