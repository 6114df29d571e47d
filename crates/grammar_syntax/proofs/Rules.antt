-- A parser and its language, form by form.
use Rattle.std.proofs.Common.{◌≡◌, ◌⊎◌, inl, inr, false, List, [], ◌∷◌, ◌++◌, refl, sym, ap, subst, ◌∙◌, append_assoc, append-nil}
use Rattle.std.proofs.lemmas.List.{append_cancel_right}
use Rattle.grammar_syntax.specs.declared.token.Token.{Token}
use Rattle.grammar_syntax.specs.Kinds.{Kinds}
use Rattle.grammar_syntax.specs.Lang.{Lang, Joined}
use Rattle.grammar_syntax.specs.Lang as lang
use Rattle.grammar_syntax.specs.ParserCombinators.{Parser, ParseResult, Read, Stop, StopReason, Unexpected, TooDeep, and_then, ◌>>=◌}
use Rattle.grammar_syntax.specs.ParseResults.{Begins, sees}

pub record ReadsFront {A : Type 0} (L : Lang A) (ts : List Token) (a : A) (rest : List Token) : Type 0 where
  pub front : List Token
  pub whole : ts ≡ front ++ rest
  pub derived : L front a

-- Reading stops at once, or behind what begins a piece.
pub record Stops {A : Type 0} (L : Lang A) (ts rest : List Token) : Type 0 where
  pub front : List Token
  pub whole : ts ≡ front ++ rest
  pub begins : (front ≡ []) ⊎ Begins L front

-- the language goes on with the token at which reading stops
pub record Opens {A : Type 0} (L : Lang A) (ts rest : List Token) : Type 0 where
  pub front : List Token
  pub token : Token
  pub more : List Token
  pub here : rest ≡ token ∷ more
  pub whole : ts ≡ front ++ rest
  pub begins : Begins L (front ++ token ∷ [])

-- how the levels of nesting of two languages compare
pub record Levels : Type 1 where
  pub Deeper : Type 0
  pub Equal : Type 0

-- where a reason stays one at the second's levels
abbrev pub Keeps : Type 0 → StopReason → Type 0
Keeps E Unexpected = Unit {0}
Keeps E TooDeep = E

-- q does what p does, and tokens behind the next one don't matter
pub record Local {A : Type 0} (E : Type 0) (p q : Parser A) : Type 0 where
  pub read : (front : List Token) (b : Token) (more others : List Token) (a : A) → p (front ++ b ∷ more) ≡ Read a (b ∷ more) → q (front ++ b ∷ others) ≡ Read a (b ∷ others)
  pub stop : (w : StopReason) → Keeps E w → (front : List Token) (b : Token) (more others : List Token) → p (front ++ b ∷ more) ≡ Stop w (b ∷ more) → q (front ++ b ∷ others) ≡ Stop w (b ∷ others)

-- p reads L, and q reads the wider K; what may follow is no token of the set
pub record Rule {A : Type 0} (L K : Lang A) (p q : Parser A) (ks : Kinds) (D : Levels) : Type 0 where
  pub sound : (ts : List Token) (a : A) (rest : List Token) → p ts ≡ Read a rest → ReadsFront L ts a rest
  pub complete : (front : List Token) (a : A) (rest : List Token) → L front a → sees ks rest ≡ false → p (front ++ rest) ≡ Read a rest
  pub viable : (ts : List Token) (w : StopReason) (rest : List Token) → p ts ≡ Stop w rest → Stops L ts rest
  pub wider : (ts : List Token) (a : A) → L ts a → K ts a
  pub local : Local D.Equal p q
  pub deep : D.Deeper → (ts rest : List Token) → p ts ≡ Stop TooDeep rest → Opens K ts rest

-- ---- one after another

pub record ReadBoth {A B : Type 0} (o : ParseResult A) (f : A → Parser B) (b : B) (rest : List Token) : Type 0 where
  pub value : A
  pub mid : List Token
  pub first : o ≡ Read value mid
  pub second : f value mid ≡ Read b rest

pub read_both : {A B : Type 0} (o : ParseResult A) (f : A → Parser B) (b : B) (rest : List Token) → and_then o f ≡ Read b rest → ReadBoth o f b rest
read_both (Read a mid) f b rest h = record { value = a; mid = mid; first = refl; second = h }
read_both (Stop w mid) f b rest h = absurd (cc)

pub record StopsSecond {A B : Type 0} (o : ParseResult A) (f : A → Parser B) (w : StopReason) (rest : List Token) : Type 0 where
  pub value : A
  pub mid : List Token
  pub first : o ≡ Read value mid
  pub second : f value mid ≡ Stop w rest

pub stop_either : {A B : Type 0} (o : ParseResult A) (f : A → Parser B) (w : StopReason) (rest : List Token) → and_then o f ≡ Stop w rest → (o ≡ Stop w rest) ⊎ StopsSecond o f w rest
stop_either (Read a mid) f w rest h = inr (record { value = a; mid = mid; first = refl; second = h })
stop_either (Stop w' mid) f w rest h = inl (cc)

later : {A : Type 0} {E : Type 0} {p q : Parser A} → Local E p q → (front behind : List Token) (b : Token) (more others : List Token) (a : A)
    → p (front ++ (behind ++ b ∷ more)) ≡ Read a (behind ++ b ∷ more) → q (front ++ (behind ++ b ∷ others)) ≡ Read a (behind ++ b ∷ others)
later l front [] b more others a h = l.read front b more others a h
later l front (c ∷ z) b more others a h = l.read front c (z ++ b ∷ more) (z ++ b ∷ others) a h

-- where one list is cut in two places
pub recut : (front one two mid rest : List Token) → front ++ rest ≡ one ++ mid → mid ≡ two ++ rest → front ≡ one ++ two
recut front one two mid rest e h = append_cancel_right front (one ++ two) rest (e ∙ ap (λ z. one ++ z) h ∙ sym (append_assoc one two rest))

pub again : {A : Type 0} {E : Type 0} {p q : Parser A} → Local E p q → (front one two mid : List Token) (b : Token) (more others : List Token) (a : A)
    → front ++ b ∷ more ≡ one ++ mid → mid ≡ two ++ b ∷ more → p (front ++ b ∷ more) ≡ Read a mid → q (front ++ b ∷ others) ≡ Read a (two ++ b ∷ others)
again {p = p} {q = q} l front one two mid b more others a e h r =
    let at : front ≡ one ++ two = recut front one two mid (b ∷ more) e h in
    let was : p (one ++ (two ++ b ∷ more)) ≡ Read a (two ++ b ∷ more) = ap p (sym (append_assoc one two (b ∷ more)) ∙ ap (λ z. z ++ b ∷ more) (sym at)) ∙ r ∙ ap (Read a) h in
    ap q (ap (λ z. z ++ b ∷ others) at ∙ append_assoc one two (b ∷ others)) ∙ later l one two b more others a was

pub begin_front : {A B : Type 0} (L : Lang A) (M : A → Lang B) → ((front : List Token) (a : A) → L front a → Begins (lang.◌>>=◌ L M) front) → (front : List Token) → Begins L front → Begins (lang.◌>>=◌ L M) front
begin_front L M on front b =
    let r = on (front ++ b.more) b.value b.derived in
    record { more = b.more ++ r.more; value = r.value; derived = subst (λ z. lang.◌>>=◌ L M z r.value) (append_assoc front b.more r.more) r.derived }

module _ {A B : Type 0} (L K : Lang A) (p q : Parser A) (M N : A → Lang B) (f g : A → Parser B) (ks js : Kinds) (D : Levels)
    (l : Rule L K p q ks D) (m : (a : A) → Rule (M a) (N a) (f a) (g a) js D)
    (leads : (a : A) (front : List Token) (b : B) (rest : List Token) → M a front b → sees js rest ≡ false → sees ks (front ++ rest) ≡ false)
    (on : (front : List Token) (a : A) → L front a → Begins (lang.◌>>=◌ L M) front)
    (wide_on : (front : List Token) (a : A) → K front a → Begins (lang.◌>>=◌ K N) front) where
  sound_both : (ts : List Token) (b : B) (rest : List Token) → (p >>= f) ts ≡ Read b rest → ReadsFront (lang.◌>>=◌ L M) ts b rest
  sound_both ts b rest h =
      let r = read_both (p ts) f b rest h in
      let x = l.sound ts r.value r.mid r.first in
      let y = (m r.value).sound r.mid b rest r.second in
      record {
        front = x.front ++ y.front;
        whole = x.whole ∙ ap (λ z. x.front ++ z) y.whole ∙ sym (append_assoc x.front y.front rest);
        derived = record { front = x.front; back = y.front; value = r.value; whole = refl; first = x.derived; second = y.derived };
      }

  complete_both : (front : List Token) (b : B) (rest : List Token) → Joined L M front b → sees js rest ≡ false → (p >>= f) (front ++ rest) ≡ Read b rest
  complete_both front b rest j h =
      let at : front ++ rest ≡ j.front ++ (j.back ++ rest) = ap (λ z. z ++ rest) j.whole ∙ append_assoc j.front j.back rest in
      ap (λ z. and_then (p z) f) at
      ∙ ap (λ o. and_then o f) (l.complete j.front j.value (j.back ++ rest) j.first (leads j.value j.back b rest j.second h))
      ∙ (m j.value).complete j.back b rest j.second h

  second_begins : (one two : List Token) (a : A) → L one a → (two ≡ []) ⊎ Begins (M a) two → Begins (lang.◌>>=◌ L M) (one ++ two)
  second_begins one two a d (inl e) = subst (Begins (lang.◌>>=◌ L M)) (sym (append-nil one) ∙ ap (λ z. one ++ z) (sym e)) (on one a d)
  second_begins one two a d (inr b) = record {
    more = b.more;
    value = b.value;
    derived = record { front = one; back = two ++ b.more; value = a; whole = append_assoc one two b.more; first = d; second = b.derived };
  }

  second_stops : (ts rest : List Token) (w : StopReason) → StopsSecond (p ts) f w rest → Stops (lang.◌>>=◌ L M) ts rest
  second_stops ts rest w s =
      let x = l.sound ts s.value s.mid s.first in
      let y = (m s.value).viable s.mid w rest s.second in
      record {
        front = x.front ++ y.front;
        whole = x.whole ∙ ap (λ z. x.front ++ z) y.whole ∙ sym (append_assoc x.front y.front rest);
        begins = inr (second_begins x.front y.front s.value x.derived y.begins);
      }

  first_begins : (front : List Token) → (front ≡ []) ⊎ Begins L front → (front ≡ []) ⊎ Begins (lang.◌>>=◌ L M) front
  first_begins front (inl e) = inl e
  first_begins front (inr b) = inr (begin_front L M on front b)

  first_stops : (ts rest : List Token) → Stops L ts rest → Stops (lang.◌>>=◌ L M) ts rest
  first_stops ts rest s = record { front = s.front; whole = s.whole; begins = first_begins s.front s.begins }

  viable_both : (ts : List Token) (w : StopReason) (rest : List Token) → (p >>= f) ts ≡ Stop w rest → Stops (lang.◌>>=◌ L M) ts rest
  viable_both ts w rest h = elim (stop_either (p ts) f w rest h) [ inl s ↦ first_stops ts rest (l.viable ts w rest s) | inr s ↦ second_stops ts rest w s ]

  wider_both : (ts : List Token) (b : B) → Joined L M ts b → Joined K N ts b
  wider_both ts b j = record { front = j.front; back = j.back; value = j.value; whole = j.whole; first = l.wider j.front j.value j.first; second = (m j.value).wider j.back b j.second }

  read_again : (front : List Token) (b : Token) (more others : List Token) (x : B) → (p >>= f) (front ++ b ∷ more) ≡ Read x (b ∷ more) → (q >>= g) (front ++ b ∷ others) ≡ Read x (b ∷ others)
  read_again front b more others x h =
      let r = read_both (p (front ++ b ∷ more)) f x (b ∷ more) h in
      let one = l.sound (front ++ b ∷ more) r.value r.mid r.first in
      let two = (m r.value).sound r.mid x (b ∷ more) r.second in
      ap (λ o. and_then o g) (again l.local front one.front two.front r.mid b more others r.value one.whole two.whole r.first)
      ∙ (m r.value).local.read two.front b more others x (ap (f r.value) (sym two.whole) ∙ r.second)

  second_again : (w : StopReason) → Keeps D.Equal w → (front : List Token) (b : Token) (more others : List Token) → StopsSecond (p (front ++ b ∷ more)) f w (b ∷ more) → (q >>= g) (front ++ b ∷ others) ≡ Stop w (b ∷ others)
  second_again w keeps front b more others s =
      let one = l.sound (front ++ b ∷ more) s.value s.mid s.first in
      let two = (m s.value).viable s.mid w (b ∷ more) s.second in
      ap (λ o. and_then o g) (again l.local front one.front two.front s.mid b more others s.value one.whole two.whole s.first)
      ∙ (m s.value).local.stop w keeps two.front b more others (ap (f s.value) (sym two.whole) ∙ s.second)

  stop_again : (w : StopReason) → Keeps D.Equal w → (front : List Token) (b : Token) (more others : List Token) → (p >>= f) (front ++ b ∷ more) ≡ Stop w (b ∷ more) → (q >>= g) (front ++ b ∷ others) ≡ Stop w (b ∷ others)
  stop_again w keeps front b more others h = elim (stop_either (p (front ++ b ∷ more)) f w (b ∷ more) h)
      [ inl s ↦ ap (λ o. and_then o g) (l.local.stop w keeps front b more others s) | inr s ↦ second_again w keeps front b more others s ]

  first_opens : (ts rest : List Token) → Opens K ts rest → Opens (lang.◌>>=◌ K N) ts rest
  first_opens ts rest o = record { front = o.front; token = o.token; more = o.more; here = o.here; whole = o.whole; begins = begin_front K N wide_on (o.front ++ o.token ∷ []) o.begins }

  second_opens : D.Deeper → (ts rest : List Token) → StopsSecond (p ts) f TooDeep rest → Opens (lang.◌>>=◌ K N) ts rest
  second_opens d ts rest s =
      let x = l.sound ts s.value s.mid s.first in
      let y = (m s.value).deep d s.mid rest s.second in
      record {
        front = x.front ++ y.front;
        token = y.token;
        more = y.more;
        here = y.here;
        whole = x.whole ∙ ap (λ z. x.front ++ z) y.whole ∙ sym (append_assoc x.front y.front rest);
        begins = record {
          more = y.begins.more;
          value = y.begins.value;
          derived = record {
            front = x.front;
            back = (y.front ++ y.token ∷ []) ++ y.begins.more;
            value = s.value;
            whole = ap (λ z. z ++ y.begins.more) (append_assoc x.front y.front (y.token ∷ [])) ∙ append_assoc x.front (y.front ++ y.token ∷ []) y.begins.more;
            first = l.wider x.front s.value x.derived;
            second = y.begins.derived;
          };
        };
      }

  deep_both : D.Deeper → (ts rest : List Token) → (p >>= f) ts ≡ Stop TooDeep rest → Opens (lang.◌>>=◌ K N) ts rest
  deep_both d ts rest h = elim (stop_either (p ts) f TooDeep rest h) [ inl s ↦ first_opens ts rest (l.deep d ts rest s) | inr s ↦ second_opens d ts rest s ]

  pub both : Rule (lang.◌>>=◌ L M) (lang.◌>>=◌ K N) (p >>= f) (q >>= g) js D
  both = record {
    sound = sound_both;
    complete = complete_both;
    viable = viable_both;
    wider = wider_both;
    local = record { read = read_again; stop = stop_again };
    deep = deep_both;
  }

-- what goes on: each second piece has a form
pub on_alive : {A B : Type 0} (L : Lang A) (M : A → Lang B) → ((a : A) → Begins (M a) []) → (front : List Token) (a : A) → L front a → Begins (lang.◌>>=◌ L M) front
on_alive L M alive front a d =
    let s = alive a in
    record { more = s.more; value = s.value; derived = record { front = front; back = s.more; value = a; whole = refl; first = d; second = s.derived } }

pub alive_both : {A B : Type 0} (L : Lang A) (M : A → Lang B) → Begins L [] → ((a : A) → Begins (M a) []) → Begins (lang.◌>>=◌ L M) []
alive_both L M b alive = begin_front L M (on_alive L M alive) [] b

pub wider_alive : {A : Type 0} (L K : Lang A) (p q : Parser A) (ks : Kinds) (D : Levels) → Rule L K p q ks D → Begins L [] → Begins K []
wider_alive L K p q ks D r b = record { more = b.more; value = b.value; derived = r.wider b.more b.value b.derived }

-- one after another, where each second piece has a form
pub then : {A B : Type 0} (L K : Lang A) (p q : Parser A) (M N : A → Lang B) (f g : A → Parser B) (ks js : Kinds) (D : Levels)
    → Rule L K p q ks D → ((a : A) → Rule (M a) (N a) (f a) (g a) js D)
    → ((a : A) (front : List Token) (b : B) (rest : List Token) → M a front b → sees js rest ≡ false → sees ks (front ++ rest) ≡ false)
    → ((a : A) → Begins (M a) []) → Rule (lang.◌>>=◌ L M) (lang.◌>>=◌ K N) (p >>= f) (q >>= g) js D
then L K p q M N f g ks js D l m leads alive =
    both L K p q M N f g ks js D l m leads (on_alive L M alive) (on_alive K N (λ a. wider_alive (M a) (N a) (f a) (g a) js D (m a) (alive a)))
