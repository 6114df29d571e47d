-- The other forms of a production.
use Rattle.std.proofs.Common.{◌≡◌, ◌⊎◌, inl, inr, ◌≤◌, Bool, true, false, List, [], ◌∷◌, ◌++◌, length, Some, None, refl, sym, ap, subst, ◌∙◌, append_assoc, length-append, arith, eq-eqb}
use Rattle.grammar_syntax.specs.declared.token.Token.{Token}
use Rattle.grammar_syntax.specs.declared.token.TokenKind.{TokenKind}
use Rattle.grammar_syntax.specs.Kinds.{Kinds, only, same_kind, number_of}
use Rattle.grammar_syntax.specs.Lang.{Lang}
use Rattle.grammar_syntax.specs.Lang as lang
use Rattle.grammar_syntax.specs.ParserCombinators.{Parser, ParseResult, Read, Stop, StopReason, Unexpected, TooDeep, pure, take, take_if, either, chosen, refuse}
use Rattle.grammar_syntax.specs.ParseResults.{Begins, sees}
use Rattle.grammar_syntax.proofs.Sets.{apart, within, sees-append, sees_apart, unseen_within, sees_same}
use Rattle.grammar_syntax.proofs.Rules.{Rule, Levels, Keeps, ReadsFront, Stops, Opens}

-- each piece begins with a token of the set
abbrev pub Starts : {A : Type 0} → Lang A → Kinds → Type 0
Starts L ks = (ts : List Token) (a : _) → L ts a → sees ks ts ≡ true

-- where no token of js follows a piece, no token of ks begins the piece with what follows
abbrev pub Leads : {A : Type 0} → Lang A → Kinds → Kinds → Type 0
Leads L ks js = (front : List Token) (a : _) (rest : List Token) → L front a → sees js rest ≡ false → sees ks (front ++ rest) ≡ false

-- ---- one token

pub same_self : (k : TokenKind) → same_kind k k ≡ true
unfolding same_kind
same_self k = eq-eqb (number_of k) (number_of k) refl

pub starts_of : (ks : Kinds) → Starts (lang.of ks) ks
starts_of ks ts t h = ap (sees ks) h.0 ∙ h.1

pub starts_both : {A B : Type 0} (L : Lang A) (M : A → Lang B) (ks : Kinds) → Starts L ks → Starts (lang.◌>>=◌ L M) ks
starts_both L M ks s ts b j = ap (sees ks) j.whole ∙ sees-append ks j.front j.back (s j.front j.value j.first)

pub starts_or : {A : Type 0} (L M : Lang A) (ks : Kinds) → Starts L ks → Starts M ks → Starts (lang.◌or◌ L M) ks
starts_or L M ks s t ts b (inl x) = s ts b x
starts_or L M ks s t ts b (inr x) = t ts b x

pub leads_starts : {A : Type 0} (L : Lang A) (is ks js : Kinds) → Starts L is → apart is ks ≡ true → Leads L ks js
leads_starts L is ks js s e front a rest x h = sees_apart is ks front rest e (s front a x)

pub leads_empty : {A : Type 0} (a : A) (ks js : Kinds) → within ks js ≡ true → Leads (lang.empty a) ks js
leads_empty a ks js e front x rest d h = ap (λ z. sees ks (z ++ rest)) d.0 ∙ unseen_within ks js rest e h

pub leads_or : {A : Type 0} (L M : Lang A) (ks js : Kinds) → Leads L ks js → Leads M ks js → Leads (lang.◌or◌ L M) ks js
leads_or L M ks js l m front a rest (inl x) h = l front a rest x h
leads_or L M ks js l m front a rest (inr x) h = m front a rest x h

pub leads_both : {A B : Type 0} (L : Lang A) (M : A → Lang B) (ks is js : Kinds) → Leads L ks is → ((a : A) → Leads (M a) is js) → Leads (lang.◌>>=◌ L M) ks js
leads_both L M ks is js l m front b rest j h =
    ap (λ z. sees ks (z ++ rest)) j.whole ∙ ap (sees ks) (append_assoc j.front j.back rest) ∙ l j.front j.value (j.back ++ rest) j.first (m j.value j.back b rest j.second h)

pub leads_many : {A : Type 0} (L : Lang A) (is ks js : Kinds) → Starts L is → apart is ks ≡ true → within ks js ≡ true → Leads (lang.many L) ks js
leads_many L is ks js s e w front [] rest x h = ap (λ z. sees ks (z ++ rest)) x ∙ unseen_within ks js rest w h
leads_many L is ks js s e w front (a ∷ as') rest x h = ap (λ z. sees ks (z ++ rest)) x.2 ∙ ap (sees ks) (append_assoc x.0 x.1 rest) ∙ sees_apart is ks x.0 (x.1 ++ rest) e (s x.0 a x.3)

pub leads_maybe : {A : Type 0} (L : Lang A) (is ks js : Kinds) → Starts L is → apart is ks ≡ true → within ks js ≡ true → Leads (lang.optional L) ks js
leads_maybe L is ks js s e w front None rest x h = ap (λ z. sees ks (z ++ rest)) x ∙ unseen_within ks js rest w h
leads_maybe L is ks js s e w front (Some a) rest x h = sees_apart is ks front rest e (s front a x)

take_read : (b : Bool) (t a : Token) (ts rest : List Token) → take_if b t ts ≡ Read a rest → (b ≡ true) × (t ≡ a) × (ts ≡ rest)
take_read true t a ts rest h = (refl, cc, cc)
take_read false t a ts rest h = absurd (cc)

take_stop : (b : Bool) (t : Token) (w : StopReason) (ts rest : List Token) → take_if b t ts ≡ Stop w rest → (b ≡ false) × (w ≡ Unexpected) × (rest ≡ t ∷ ts)
take_stop true t w ts rest h = absurd (cc)
take_stop false t w ts rest h = (refl, cc, cc)

sound_one : (ks : Kinds) (ts : List Token) (a : Token) (rest : List Token) → take ks ts ≡ Read a rest → ReadsFront (lang.of ks) ts a rest
unfolding take
sound_one ks [] a rest h = absurd (cc)
sound_one ks (t ∷ ts) a rest h =
    let r = take_read (ks t.kind) t a ts rest h in
    record { front = t ∷ []; whole = ap (λ z. t ∷ z) r.2; derived = (ap (λ z. z ∷ []) r.1, ap (λ z. ks z.kind) (sym r.1) ∙ r.0) }

complete_one : (ks : Kinds) (front : List Token) (a : Token) (rest : List Token) → lang.of ks front a → take ks (front ++ rest) ≡ Read a rest
unfolding take
complete_one ks front a rest h = ap (λ z. take ks (z ++ rest)) h.0 ∙ ap (λ b. take_if b a rest) h.1

pub begin_of : (ks : Kinds) (k : TokenKind) → ks k ≡ true → Begins (lang.of ks) []
begin_of ks k e = let t : Token = record { kind = k; start = 0; end = 0 } in record { more = t ∷ []; value = t; derived = (refl, e) }

stops_one : (ks : Kinds) (ts rest : List Token) → rest ≡ ts → Stops (lang.of ks) ts rest
stops_one ks ts rest h = record { front = []; whole = sym h; begins = inl refl }

viable_one : (ks : Kinds) (ts : List Token) (w : StopReason) (rest : List Token) → take ks ts ≡ Stop w rest → Stops (lang.of ks) ts rest
unfolding take
viable_one ks [] w rest h = stops_one ks [] rest (cc)
viable_one ks (t ∷ ts) w rest h = stops_one ks (t ∷ ts) rest (take_stop (ks t.kind) t w ts rest h).2

not_deep : (ks : Kinds) (ts rest : List Token) → take ks ts ≡ Stop TooDeep rest → ⊥
unfolding take
not_deep ks [] rest h = cc
not_deep ks (t ∷ ts) rest h = let e = (take_stop (ks t.kind) t TooDeep ts rest h).1 in cc

long : (ts : List Token) (t : Token) → length (t ∷ ts) ≤ length ts → ⊥
long ts t h = omega arith

read_one_again : (ks : Kinds) (front : List Token) (b : Token) (more others : List Token) (a : Token) → take ks (front ++ b ∷ more) ≡ Read a (b ∷ more) → take ks (front ++ b ∷ others) ≡ Read a (b ∷ others)
unfolding take
read_one_again ks [] b more others a h =
    let e = (take_read (ks b.kind) b a more (b ∷ more) h).2 in absurd (long more b (subst (λ z. length z ≤ length more) e (omega arith)))
read_one_again ks (t ∷ []) b more others a h =
    let r = take_read (ks t.kind) t a (b ∷ more) (b ∷ more) h in
    ap (λ x. take_if x t (b ∷ others)) r.0 ∙ ap (λ x. Read x (b ∷ others)) r.1
read_one_again ks (t ∷ u ∷ front) b more others a h =
    let e = ap length (take_read (ks t.kind) t a (u ∷ (front ++ b ∷ more)) (b ∷ more) h).2 in
    absurd (omega (arith, length-append front (b ∷ more), e))

stop_one_again : (ks : Kinds) (w : StopReason) (front : List Token) (b : Token) (more others : List Token) → take ks (front ++ b ∷ more) ≡ Stop w (b ∷ more) → take ks (front ++ b ∷ others) ≡ Stop w (b ∷ others)
unfolding take
stop_one_again ks w [] b more others h =
    let r = take_stop (ks b.kind) b w more (b ∷ more) h in
    ap (λ x. take_if x b others) r.0 ∙ ap (λ z. Stop z (b ∷ others)) (sym r.1)
stop_one_again ks w (t ∷ front) b more others h =
    let e = ap length (take_stop (ks t.kind) t w (front ++ b ∷ more) (b ∷ more) h).2 in
    absurd (omega (arith, length-append front (b ∷ more), e))

pub of : (ks js : Kinds) (D : Levels) → Rule (lang.of ks) (lang.of ks) (take ks) (take ks) js D
of ks js D = record {
  sound = sound_one ks;
  complete = λ front a rest h _. complete_one ks front a rest h;
  viable = viable_one ks;
  wider = λ ts a h. h;
  local = record { read = read_one_again ks; stop = λ w keeps. stop_one_again ks w };
  deep = λ d ts rest h. absurd (not_deep ks ts rest h);
}

pub one : (k : TokenKind) (js : Kinds) (D : Levels) → Rule (lang.one k) (lang.one k) (take (only k)) (take (only k)) js D
one k js D = of (only k) js D

pub alive_one : (k : TokenKind) → Begins (lang.one k) []
alive_one k = begin_of (only k) k (same_self k)

pub alive_empty : {A : Type 0} (a : A) → Begins (lang.empty a) []
alive_empty a = record { more = []; value = a; derived = (refl, refl) }

-- ---- nothing

pub nothing_read : {A : Type 0} (a x : A) (ts rest : List Token) → Read a ts ≡ Read x rest → (a ≡ x) × (ts ≡ rest)
nothing_read a x ts rest h = (cc, cc)

pub not_stop : {A : Type 0} (a : A) (w : StopReason) (ts rest : List Token) → Read a ts ≡ Stop w rest → ⊥
not_stop a w ts rest h = cc

pub cut_same : (front : List Token) (b : Token) (more : List Token) → front ++ b ∷ more ≡ b ∷ more → front ≡ []
cut_same [] b more h = refl
cut_same (t ∷ front) b more h = let e = ap length h in absurd (omega (arith, length-append front (b ∷ more), e))

pub nothing : {A : Type 0} (a : A) (js : Kinds) (D : Levels) → Rule (lang.empty a) (lang.empty a) (pure a) (pure a) js D
nothing a js D = record {
  sound = λ ts x rest h. let e = nothing_read a x ts rest h in record { front = []; whole = e.1; derived = (refl, sym e.0) };
  complete = λ front x rest h _. ap (λ z. Read a (z ++ rest)) h.0 ∙ ap (λ z. Read z rest) (sym h.1);
  viable = λ ts w rest h. absurd (not_stop a w ts rest h);
  wider = λ ts x h. h;
  local = record {
    read = λ front b more others x h. let e = nothing_read a x (front ++ b ∷ more) (b ∷ more) h in
        ap (λ z. Read a (z ++ b ∷ others)) (cut_same front b more e.1) ∙ ap (λ z. Read z (b ∷ others)) e.0;
    stop = λ w keeps front b more others h. absurd (not_stop a w (front ++ b ∷ more) (b ∷ more) h);
  };
  deep = λ d ts rest h. absurd (not_stop a TooDeep ts rest h);
}

-- ---- one of two

pub choice : {A : Type 0} (b : Bool) (p q : Parser A) (ts : List Token) (o : ParseResult A) → chosen b p q ts ≡ o → ((b ≡ true) × (p ts ≡ o)) ⊎ ((b ≡ false) × (q ts ≡ o))
choice true p q ts o h = inl (refl, h)
choice false p q ts o h = inr (refl, h)

pub took : {A : Type 0} (b : Bool) (p q : Parser A) (ts : List Token) → b ≡ true → chosen b p q ts ≡ p ts
took true p q ts h = refl
took false p q ts h = absurd (cc)

pub left : {A : Type 0} (b : Bool) (p q : Parser A) (ts : List Token) → b ≡ false → chosen b p q ts ≡ q ts
left false p q ts h = refl
left true p q ts h = absurd (cc)

pub alive_left : {A : Type 0} (L M : Lang A) (front : List Token) → Begins L front → Begins (lang.◌or◌ L M) front
alive_left L M front b = record { more = b.more; value = b.value; derived = inl b.derived }

pub alive_right : {A : Type 0} (L M : Lang A) (front : List Token) → Begins M front → Begins (lang.◌or◌ L M) front
alive_right L M front b = record { more = b.more; value = b.value; derived = inr b.derived }

module _ {A : Type 0} (L K M N : Lang A) (p p' q q' : Parser A) (ks js : Kinds) (D : Levels)
    (l : Rule L K p p' js D) (m : Rule M N q q' js D) (starts : Starts L ks) (leads : Leads M ks js) where
  begin_left : (front : List Token) → (front ≡ []) ⊎ Begins L front → (front ≡ []) ⊎ Begins (lang.◌or◌ L M) front
  begin_left front (inl e) = inl e
  begin_left front (inr b) = inr (alive_left L M front b)

  begin_right : (front : List Token) → (front ≡ []) ⊎ Begins M front → (front ≡ []) ⊎ Begins (lang.◌or◌ L M) front
  begin_right front (inl e) = inl e
  begin_right front (inr b) = inr (alive_right L M front b)

  sound_either : (ts : List Token) (a : A) (rest : List Token) → either ks p q ts ≡ Read a rest → ReadsFront (lang.◌or◌ L M) ts a rest
  sound_either ts a rest h = elim (choice (sees ks ts) p q ts (Read a rest) h) [
    | inl c ↦ (let r = l.sound ts a rest c.1 in record { front = r.front; whole = r.whole; derived = inl r.derived })
    | inr c ↦ (let r = m.sound ts a rest c.1 in record { front = r.front; whole = r.whole; derived = inr r.derived })
  ]

  complete_either : (front : List Token) (a : A) (rest : List Token) → lang.◌or◌ L M front a → sees js rest ≡ false → either ks p q (front ++ rest) ≡ Read a rest
  complete_either front a rest (inl x) h = took (sees ks (front ++ rest)) p q (front ++ rest) (sees-append ks front rest (starts front a x)) ∙ l.complete front a rest x h
  complete_either front a rest (inr x) h = left (sees ks (front ++ rest)) p q (front ++ rest) (leads front a rest x h) ∙ m.complete front a rest x h

  viable_either : (ts : List Token) (w : StopReason) (rest : List Token) → either ks p q ts ≡ Stop w rest → Stops (lang.◌or◌ L M) ts rest
  viable_either ts w rest h = elim (choice (sees ks ts) p q ts (Stop w rest) h) [
    | inl c ↦ (let r = l.viable ts w rest c.1 in record { front = r.front; whole = r.whole; begins = begin_left r.front r.begins })
    | inr c ↦ (let r = m.viable ts w rest c.1 in record { front = r.front; whole = r.whole; begins = begin_right r.front r.begins })
  ]

  wider_either : (ts : List Token) (a : A) → lang.◌or◌ L M ts a → lang.◌or◌ K N ts a
  wider_either ts a (inl x) = inl (l.wider ts a x)
  wider_either ts a (inr x) = inr (m.wider ts a x)

  read_either : (front : List Token) (b : Token) (more others : List Token) (a : A) → either ks p q (front ++ b ∷ more) ≡ Read a (b ∷ more) → either ks p' q' (front ++ b ∷ others) ≡ Read a (b ∷ others)
  read_either front b more others a h = elim (choice (sees ks (front ++ b ∷ more)) p q (front ++ b ∷ more) (Read a (b ∷ more)) h) [
    | inl c ↦ took (sees ks (front ++ b ∷ others)) p' q' (front ++ b ∷ others) (sees_same ks front b others more ∙ c.0) ∙ l.local.read front b more others a c.1
    | inr c ↦ left (sees ks (front ++ b ∷ others)) p' q' (front ++ b ∷ others) (sees_same ks front b others more ∙ c.0) ∙ m.local.read front b more others a c.1
  ]

  stop_either_again : (w : StopReason) → Keeps D.Equal w → (front : List Token) (b : Token) (more others : List Token) → either ks p q (front ++ b ∷ more) ≡ Stop w (b ∷ more) → either ks p' q' (front ++ b ∷ others) ≡ Stop w (b ∷ others)
  stop_either_again w keeps front b more others h = elim (choice (sees ks (front ++ b ∷ more)) p q (front ++ b ∷ more) (Stop w (b ∷ more)) h) [
    | inl c ↦ took (sees ks (front ++ b ∷ others)) p' q' (front ++ b ∷ others) (sees_same ks front b others more ∙ c.0) ∙ l.local.stop w keeps front b more others c.1
    | inr c ↦ left (sees ks (front ++ b ∷ others)) p' q' (front ++ b ∷ others) (sees_same ks front b others more ∙ c.0) ∙ m.local.stop w keeps front b more others c.1
  ]

  deep_left : (ts rest : List Token) → Opens K ts rest → Opens (lang.◌or◌ K N) ts rest
  deep_left ts rest o = record { front = o.front; token = o.token; more = o.more; here = o.here; whole = o.whole; begins = record { more = o.begins.more; value = o.begins.value; derived = inl o.begins.derived } }

  deep_right : (ts rest : List Token) → Opens N ts rest → Opens (lang.◌or◌ K N) ts rest
  deep_right ts rest o = record { front = o.front; token = o.token; more = o.more; here = o.here; whole = o.whole; begins = record { more = o.begins.more; value = o.begins.value; derived = inr o.begins.derived } }

  pub or : Rule (lang.◌or◌ L M) (lang.◌or◌ K N) (either ks p q) (either ks p' q') js D
  or = record {
    sound = sound_either;
    complete = complete_either;
    viable = viable_either;
    wider = wider_either;
    local = record { read = read_either; stop = stop_either_again };
    deep = λ d ts rest h. elim (choice (sees ks ts) p q ts (Stop TooDeep rest) h) [ inl c ↦ deep_left ts rest (l.deep d ts rest c.1) | inr c ↦ deep_right ts rest (m.deep d ts rest c.1) ];
  }

-- ---- nothing fits

never_read : {A : Type 0} (a : A) (ts rest : List Token) → refuse ts ≡ Read a rest → ⊥
never_read a ts rest h = cc

stops_here : {A : Type 0} (ts rest : List Token) (w : StopReason) → refuse {A = A} ts ≡ Stop w rest → ts ≡ rest
stops_here ts rest w h = cc

not_too_deep : {A : Type 0} (ts rest : List Token) → refuse {A = A} ts ≡ Stop TooDeep rest → ⊥
not_too_deep ts rest h = cc

why_refused : {A : Type 0} (ts rest : List Token) (w : StopReason) → refuse {A = A} ts ≡ Stop w rest → Unexpected ≡ w
why_refused ts rest w h = cc

refuse_again : {A : Type 0} (w : StopReason) (front : List Token) (b : Token) (more others : List Token) → refuse {A = A} (front ++ b ∷ more) ≡ Stop w (b ∷ more) → refuse {A = A} (front ++ b ∷ others) ≡ Stop w (b ∷ others)
refuse_again w front b more others h =
    ap (λ z. Stop Unexpected (z ++ b ∷ others)) (cut_same front b more (stops_here (front ++ b ∷ more) (b ∷ more) w h))
    ∙ ap (λ z. Stop z (b ∷ others)) (why_refused (front ++ b ∷ more) (b ∷ more) w h)

pub refused : {A : Type 0} (js : Kinds) (D : Levels) → Rule (lang.never {A = A}) (lang.never {A = A}) refuse refuse js D
refused js D = record {
  sound = λ ts a rest h. absurd (never_read a ts rest h);
  complete = λ front a rest d _. absurd d;
  viable = λ ts w rest h. record { front = []; whole = stops_here ts rest w h; begins = inl refl };
  wider = λ ts a d. d;
  local = record { read = λ front b more others a h. absurd (never_read a (front ++ b ∷ more) (b ∷ more) h); stop = λ w keeps. refuse_again w };
  deep = λ d ts rest h. absurd (not_too_deep ts rest h);
}
