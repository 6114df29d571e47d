-- Repetition.
use Rattle.std.proofs.Common.{◌≡◌, ◌⊎◌, inl, inr, ℕ, zero, suc, ◌<◌, ◌≤◌, true, false, List, [], ◌∷◌, ◌++◌, length, refl, sym, ap, subst, ◌∙◌, append_assoc, append-nil, length-append, arith}
use Rattle.grammar_syntax.specs.declared.token.Token.{Token}
use Rattle.grammar_syntax.specs.Kinds.{Kinds}
use Rattle.grammar_syntax.specs.Lang.{Lang}
use Rattle.grammar_syntax.specs.Lang as lang
use Rattle.grammar_syntax.specs.ParserCombinators.{Parser, Read, Stop, StopReason, TooDeep, and_then, ◌>>=◌, pure, loop_from, loop, many}
use Rattle.grammar_syntax.specs.ParseResults.{Begins, sees}
use Rattle.grammar_syntax.proofs.Sets.{apart, within, sees-append, sees_apart, unseen_within, sees_same}
use Rattle.grammar_syntax.proofs.Rules.{Rule, Levels, Keeps, ReadsFront, Stops, Opens, read_both, stop_either, again, recut}
use Rattle.grammar_syntax.proofs.Forms.{Starts, choice, took, left, nothing_read, not_stop, cut_same}
use Rattle.grammar_syntax.proofs.More.{same}

-- pieces, each after a state that the one before leads to
abbrev pub looped : {S A : Type 0} → (S → A → S) → (S → Lang A) → S → Lang (List A)
looped next L s ts [] = ts ≡ []
looped next L s ts (x ∷ xs) = (front : List Token) × (back : List Token) × (ts ≡ front ++ back) × L s front x × looped next L (next s x) back xs

-- one turn, where n more may follow
abbrev pub turn : {S A : Type 0} → (S → A → S) → (S → Kinds) → (S → Parser A) → ℕ → S → Parser (List A)
turn next ks p n s = p s >>= (λ a. loop_from next ks p n (next s a) >>= (λ more. pure (a ∷ more)))

module _ {S A : Type 0} (next : S → A → S) (ks : S → Kinds) (p : S → Parser A) where
  record TurnRead (n : ℕ) (st : S) (ts : List Token) (xs : List A) (rest : List Token) : Type 0 where
    head : A
    tail : List A
    mid : List Token
    one : p st ts ≡ Read head mid
    others : loop_from next ks p n (next st head) mid ≡ Read tail rest
    all : head ∷ tail ≡ xs

  turn_read : (n : ℕ) (st : S) (ts : List Token) (xs : List A) (rest : List Token) → turn next ks p n st ts ≡ Read xs rest → TurnRead n st ts xs rest
  turn_read n st ts xs rest h =
      let r = read_both (p st ts) (λ a. loop_from next ks p n (next st a) >>= (λ more. pure (a ∷ more))) xs rest h in
      let s = read_both (loop_from next ks p n (next st r.value) r.mid) (λ more. pure (r.value ∷ more)) xs rest r.second in
      let e = nothing_read (r.value ∷ s.value) xs s.mid rest s.second in
      record { head = r.value; tail = s.value; mid = r.mid; one = r.first; others = s.first ∙ ap (Read s.value) e.1; all = e.0 }

  pub record TurnStops (n : ℕ) (st : S) (ts : List Token) (w : StopReason) (rest : List Token) : Type 0 where
    pub head : A
    pub mid : List Token
    pub one : p st ts ≡ Read head mid
    pub others : loop_from next ks p n (next st head) mid ≡ Stop w rest

  pub turn_stops : (n : ℕ) (st : S) (ts : List Token) (w : StopReason) (rest : List Token) → turn next ks p n st ts ≡ Stop w rest → (p st ts ≡ Stop w rest) ⊎ TurnStops n st ts w rest
  turn_stops n st ts w rest h = elim (stop_either (p st ts) (λ a. loop_from next ks p n (next st a) >>= (λ more. pure (a ∷ more))) w rest h) [
    | inl s ↦ inl s
    | inr s ↦ elim (stop_either (loop_from next ks p n (next st s.value) s.mid) (λ more. pure (s.value ∷ more)) w rest s.second) [
      | inl t ↦ inr (record { head = s.value; mid = s.mid; one = s.first; others = t })
      | inr t ↦ absurd (not_stop (s.value ∷ t.value) w t.mid rest t.second)
    ]
  ]

module _ {S A : Type 0} (next : S → A → S) (L : S → Lang A) where
  none : (st : S) (ts rest : List Token) (xs : List A) → Read [] ts ≡ Read xs rest → ReadsFront (looped next L st) ts xs rest
  none st ts rest xs h =
      let e = nothing_read [] xs ts rest h in
      record { front = []; whole = e.1; derived = subst (λ z. looped next L st [] z) e.0 refl }

  begin_none : (st : S) → Begins (looped next L st) []
  begin_none st = record { more = []; value = []; derived = refl }

  begin_one : (st : S) (front : List Token) → Begins (L st) front → Begins (looped next L st) front
  begin_one st front b = record { more = b.more; value = b.value ∷ []; derived = (front ++ b.more, [], sym (append-nil (front ++ b.more)), b.derived, refl) }

  begin_more : (st : S) (one two : List Token) (a : A) → L st one a → Begins (looped next L (next st a)) two → Begins (looped next L st) (one ++ two)
  begin_more st one two a d b = record { more = b.more; value = a ∷ b.value; derived = (one, two ++ b.more, append_assoc one two b.more, d, b.derived) }

  stop_first : (st : S) (front : List Token) → (front ≡ []) ⊎ Begins (L st) front → (front ≡ []) ⊎ Begins (looped next L st) front
  stop_first st front (inl e) = inl e
  stop_first st front (inr b) = inr (begin_one st front b)

  loop_begins : (st : S) (front : List Token) → (front ≡ []) ⊎ Begins (looped next L st) front → Begins (looped next L st) front
  loop_begins st front (inl e) = subst (Begins (looped next L st)) (sym e) (begin_none st)
  loop_begins st front (inr b) = b

-- a piece isn't empty
pub some_token : (ks : Kinds) (ts : List Token) → sees ks ts ≡ true → 0 < length ts
some_token ks [] h = absurd (cc)
some_token ks (t ∷ ts) h = omega arith

shorter : (ks : Kinds) (ts front mid : List Token) → ts ≡ front ++ mid → sees ks front ≡ true → length mid < length ts
shorter ks ts front mid e h = omega (arith, ap length e, length-append front mid, some_token ks front h)

module _ {S A : Type 0} (next : S → A → S) (L K : S → Lang A) (p q : S → Parser A) (ks : S → Kinds) (is js : Kinds) (D : Levels)
    (l : (s : S) (ts : List Token) → sees (ks s) ts ≡ true → Rule (L s) (K s) (p s) (q s) is D) (starts : (s : S) → Starts (L s) (ks s)) (ki : (s : S) → apart (ks s) is ≡ true) (ij : within is js ≡ true) (kj : (s : S) → within (ks s) js ≡ true) where
  sound_many : (n : ℕ) (st : S) (ts : List Token) (xs : List A) (rest : List Token) → loop_from next ks p n st ts ≡ Read xs rest → ReadsFront (looped next L st) ts xs rest
  unfolding loop_from
  sound_many zero st ts xs rest h = none next L st ts rest xs h
  sound_many (suc n) st ts xs rest h = elim (choice (sees (ks st) ts) (turn next ks p n st) (pure []) ts (Read xs rest) h) [
    | inl c ↦ (let t = turn_read next ks p n st ts xs rest c.1 in
        let x = (l st ts c.0).sound ts t.head t.mid t.one in
        let y = sound_many n (next st t.head) t.mid t.tail rest t.others in
        record {
          front = x.front ++ y.front;
          whole = x.whole ∙ ap (λ z. x.front ++ z) y.whole ∙ sym (append_assoc x.front y.front rest);
          derived = subst (λ z. looped next L st (x.front ++ y.front) z) t.all (x.front, y.front, refl, x.derived, y.derived);
        })
    | inr c ↦ none next L st ts rest xs c.1
  ]

  pub unseen : (st : S) (front : List Token) (xs : List A) (rest : List Token) → looped next L st front xs → sees js rest ≡ false → sees is (front ++ rest) ≡ false
  unseen st front [] rest d h = ap (λ z. sees is (z ++ rest)) d ∙ unseen_within is js rest ij h
  unseen st front (x ∷ xs) rest d h = ap (λ z. sees is (z ++ rest)) d.2 ∙ ap (sees is) (append_assoc d.0 d.1 rest) ∙ sees_apart (ks st) is d.0 (d.1 ++ rest) (ki st) (starts st d.0 x d.3)

  complete_many : (n : ℕ) (st : S) (front : List Token) (xs : List A) (rest : List Token) → length (front ++ rest) ≤ n → looped next L st front xs → sees js rest ≡ false → loop_from next ks p n st (front ++ rest) ≡ Read xs rest
  unfolding loop_from
  complete_many zero st front [] rest e d h = ap (λ z. Read [] (z ++ rest)) d
  complete_many (suc n) st front [] rest e d h =
      left (sees (ks st) (front ++ rest)) (turn next ks p n st) (pure []) (front ++ rest) (ap (λ z. sees (ks st) (z ++ rest)) d ∙ unseen_within (ks st) js rest (kj st) h) ∙ ap (λ z. Read [] (z ++ rest)) d
  complete_many zero st front (x ∷ xs) rest e d h =
      absurd (omega (arith, length-append front rest, ap length d.2, length-append d.0 d.1, some_token (ks st) d.0 (starts st d.0 x d.3)))
  complete_many (suc n) st front (x ∷ xs) rest e d h =
      let at : front ++ rest ≡ d.0 ++ (d.1 ++ rest) = ap (λ z. z ++ rest) d.2 ∙ append_assoc d.0 d.1 rest in
      let small : length (d.1 ++ rest) ≤ n = omega (arith, shorter (ks st) (front ++ rest) d.0 (d.1 ++ rest) at (starts st d.0 x d.3)) in
      took (sees (ks st) (front ++ rest)) (turn next ks p n st) (pure []) (front ++ rest) (ap (sees (ks st)) at ∙ sees-append (ks st) d.0 (d.1 ++ rest) (starts st d.0 x d.3))
      ∙ ap (turn next ks p n st) at
      ∙ ap (λ o. and_then o (λ a. loop_from next ks p n (next st a) >>= (λ more. pure (a ∷ more)))) ((l st d.0 (starts st d.0 x d.3)).complete d.0 x (d.1 ++ rest) d.3 (unseen (next st x) d.1 xs rest d.4 h))
      ∙ ap (λ o. and_then o (λ more. pure (x ∷ more))) (complete_many n (next st x) d.1 xs rest small d.4 h)

  pub viable_many : (n : ℕ) (st : S) (ts : List Token) (w : StopReason) (rest : List Token) → loop_from next ks p n st ts ≡ Stop w rest → Stops (looped next L st) ts rest
  unfolding loop_from
  viable_many zero st ts w rest h = absurd (not_stop [] w ts rest h)
  viable_many (suc n) st ts w rest h = elim (choice (sees (ks st) ts) (turn next ks p n st) (pure []) ts (Stop w rest) h) [
    | inl c ↦ elim (turn_stops next ks p n st ts w rest c.1) [
      | inl s ↦ (let x = (l st ts c.0).viable ts w rest s in record { front = x.front; whole = x.whole; begins = stop_first next L st x.front x.begins })
      | inr s ↦ (let x = (l st ts c.0).sound ts s.head s.mid s.one in
          let y = viable_many n (next st s.head) s.mid w rest s.others in
          record { front = x.front ++ y.front; whole = x.whole ∙ ap (λ z. x.front ++ z) y.whole ∙ sym (append_assoc x.front y.front rest); begins = inr (begin_more next L st x.front y.front s.head x.derived (loop_begins next L (next st s.head) y.front y.begins)) })
    ]
    | inr c ↦ absurd (not_stop [] w ts rest c.1)
  ]

  wider_many : (st : S) (ts : List Token) (xs : List A) → looped next L st ts xs → looped next K st ts xs
  wider_many st ts [] d = d
  wider_many st ts (x ∷ xs) d = (d.0, d.1, d.2, (l st d.0 (starts st d.0 x d.3)).wider d.0 x d.3, wider_many (next st x) d.1 xs d.4)

  small : (st : S) (front one mid others : List Token) (n : ℕ) → front ++ others ≡ one ++ mid → sees (ks st) one ≡ true → length (front ++ others) ≤ suc n → length mid ≤ n
  small st front one mid others n e s h = omega (arith, shorter (ks st) (front ++ others) one mid e s)

  recut_others : (front one two mid : List Token) (b : Token) (more others : List Token) → front ++ b ∷ more ≡ one ++ mid → mid ≡ two ++ b ∷ more → front ++ b ∷ others ≡ one ++ (two ++ b ∷ others)
  recut_others front one two mid b more others e h = ap (λ z. z ++ b ∷ others) (recut front one two mid (b ∷ more) e h) ∙ append_assoc one two (b ∷ others)

  read_many : (n m : ℕ) (st : S) (front : List Token) (b : Token) (more others : List Token) (xs : List A) → length (front ++ b ∷ more) ≤ n → length (front ++ b ∷ others) ≤ m
      → loop_from next ks p n st (front ++ b ∷ more) ≡ Read xs (b ∷ more) → loop_from next ks q m st (front ++ b ∷ others) ≡ Read xs (b ∷ others)
  unfolding loop_from
  read_many zero m st front b more others xs e f h = absurd (omega (arith, length-append front (b ∷ more)))
  read_many (suc n) zero st front b more others xs e f h = absurd (omega (arith, length-append front (b ∷ others)))
  read_many (suc n) (suc m) st front b more others xs e f h = elim (choice (sees (ks st) (front ++ b ∷ more)) (turn next ks p n st) (pure []) (front ++ b ∷ more) (Read xs (b ∷ more)) h) [
    | inl c ↦ (let t = turn_read next ks p n st (front ++ b ∷ more) xs (b ∷ more) c.1 in
        let x = (l st (front ++ b ∷ more) c.0).sound (front ++ b ∷ more) t.head t.mid t.one in
        let y = sound_many n (next st t.head) t.mid t.tail (b ∷ more) t.others in
        let seen = starts st x.front t.head x.derived in
        let here = recut_others front x.front y.front t.mid b more others x.whole y.whole in
        took (sees (ks st) (front ++ b ∷ others)) (turn next ks q m st) (pure []) (front ++ b ∷ others) (sees_same (ks st) front b others more ∙ c.0)
        ∙ ap (λ o. and_then o (λ a. loop_from next ks q m (next st a) >>= (λ more. pure (a ∷ more)))) (again (l st (front ++ b ∷ more) c.0).local front x.front y.front t.mid b more others t.head x.whole y.whole t.one)
        ∙ ap (λ o. and_then o (λ more. pure (t.head ∷ more)))
        (read_many n m (next st t.head) y.front b more others t.tail
        (subst (λ z. length z ≤ n) y.whole (small st front x.front t.mid (b ∷ more) n x.whole seen e))
        (small st front x.front (y.front ++ b ∷ others) (b ∷ others) m here seen f)
        (ap (loop_from next ks p n (next st t.head)) (sym y.whole) ∙ t.others))
        ∙ ap (λ z. Read z (b ∷ others)) t.all)
    | inr c ↦ (let e = nothing_read [] xs (front ++ b ∷ more) (b ∷ more) c.1 in
        left (sees (ks st) (front ++ b ∷ others)) (turn next ks q m st) (pure []) (front ++ b ∷ others) (sees_same (ks st) front b others more ∙ c.0)
        ∙ ap (λ z. Read [] (z ++ b ∷ others)) (cut_same front b more e.1) ∙ ap (λ z. Read z (b ∷ others)) e.0)
  ]

  stop_many : (w : StopReason) → Keeps D.Equal w → (n m : ℕ) (st : S) (front : List Token) (b : Token) (more others : List Token) → length (front ++ b ∷ more) ≤ n → length (front ++ b ∷ others) ≤ m
      → loop_from next ks p n st (front ++ b ∷ more) ≡ Stop w (b ∷ more) → loop_from next ks q m st (front ++ b ∷ others) ≡ Stop w (b ∷ others)
  unfolding loop_from
  stop_many w keeps zero m st front b more others e f h = absurd (omega (arith, length-append front (b ∷ more)))
  stop_many w keeps (suc n) zero st front b more others e f h = absurd (omega (arith, length-append front (b ∷ others)))
  stop_many w keeps (suc n) (suc m) st front b more others e f h = elim (choice (sees (ks st) (front ++ b ∷ more)) (turn next ks p n st) (pure []) (front ++ b ∷ more) (Stop w (b ∷ more)) h) [
    | inl c ↦ (took (sees (ks st) (front ++ b ∷ others)) (turn next ks q m st) (pure []) (front ++ b ∷ others) (sees_same (ks st) front b others more ∙ c.0)
        ∙ elim (turn_stops next ks p n st (front ++ b ∷ more) w (b ∷ more) c.1) [
          | inl s ↦ ap (λ o. and_then o (λ a. loop_from next ks q m (next st a) >>= (λ more. pure (a ∷ more)))) ((l st (front ++ b ∷ more) c.0).local.stop w keeps front b more others s)
          | inr t ↦ (let x = (l st (front ++ b ∷ more) c.0).sound (front ++ b ∷ more) t.head t.mid t.one in
              let y = viable_many n (next st t.head) t.mid w (b ∷ more) t.others in
              let seen = starts st x.front t.head x.derived in
              let here = recut_others front x.front y.front t.mid b more others x.whole y.whole in
              ap (λ o. and_then o (λ a. loop_from next ks q m (next st a) >>= (λ more. pure (a ∷ more)))) (again (l st (front ++ b ∷ more) c.0).local front x.front y.front t.mid b more others t.head x.whole y.whole t.one)
              ∙ ap (λ o. and_then o (λ more. pure (t.head ∷ more)))
              (stop_many w keeps n m (next st t.head) y.front b more others
              (subst (λ z. length z ≤ n) y.whole (small st front x.front t.mid (b ∷ more) n x.whole seen e))
              (small st front x.front (y.front ++ b ∷ others) (b ∷ others) m here seen f)
              (ap (loop_from next ks p n (next st t.head)) (sym y.whole) ∙ t.others)))
        ])
    | inr c ↦ absurd (not_stop [] w (front ++ b ∷ more) (b ∷ more) c.1)
  ]

  deep_many : D.Deeper → (n : ℕ) (st : S) (ts rest : List Token) → loop_from next ks p n st ts ≡ Stop TooDeep rest → Opens (looped next K st) ts rest
  unfolding loop_from
  deep_many d zero st ts rest h = absurd (not_stop [] TooDeep ts rest h)
  deep_many d (suc n) st ts rest h = elim (choice (sees (ks st) ts) (turn next ks p n st) (pure []) ts (Stop TooDeep rest) h) [
    | inl c ↦ elim (turn_stops next ks p n st ts TooDeep rest c.1) [
      | inl s ↦ (let x = (l st ts c.0).deep d ts rest s in record { front = x.front; token = x.token; more = x.more; here = x.here; whole = x.whole; begins = begin_one next K st (x.front ++ x.token ∷ []) x.begins })
      | inr s ↦ (let x = (l st ts c.0).sound ts s.head s.mid s.one in
          let y = deep_many d n (next st s.head) s.mid rest s.others in
          record {
            front = x.front ++ y.front;
            token = y.token;
            more = y.more;
            here = y.here;
            whole = x.whole ∙ ap (λ z. x.front ++ z) y.whole ∙ sym (append_assoc x.front y.front rest);
            begins = subst (Begins (looped next K st)) (sym (append_assoc x.front y.front (y.token ∷ []))) (begin_more next K st x.front (y.front ++ y.token ∷ []) s.head ((l st ts c.0).wider x.front s.head x.derived) y.begins);
          })
    ]
    | inr c ↦ absurd (not_stop [] TooDeep ts rest c.1)
  ]

  pub repeated : (st : S) → Rule (looped next L st) (looped next K st) (loop next ks p st) (loop next ks q st) js D
  repeated st = record {
    sound = λ ts xs rest h. sound_many (length ts) st ts xs rest h;
    complete = λ front xs rest d h. complete_many (length (front ++ rest)) st front xs rest (omega arith) d h;
    viable = λ ts w rest h. viable_many (length ts) st ts w rest h;
    wider = wider_many st;
    local = record {
      read = λ front b more others xs h. read_many (length (front ++ b ∷ more)) (length (front ++ b ∷ others)) st front b more others xs (omega arith) (omega arith) h;
      stop = λ w keeps front b more others h. stop_many w keeps (length (front ++ b ∷ more)) (length (front ++ b ∷ others)) st front b more others (omega arith) (omega arith) h;
    };
    deep = λ d ts rest h. deep_many d (length ts) st ts rest h;
  }

many_to : {A : Type 0} (L : Lang A) (ts : List Token) (xs : List A) → looped (λ s a. s) (λ s. L) (tt {0}) ts xs → lang.many L ts xs
many_to L ts [] d = d
many_to L ts (x ∷ xs) d = (d.0, d.1, d.2, d.3, many_to L d.1 xs d.4)

pub many_from : {A : Type 0} (L : Lang A) (ts : List Token) (xs : List A) → lang.many L ts xs → looped (λ s a. s) (λ s. L) (tt {0}) ts xs
many_from L ts [] d = d
many_from L ts (x ∷ xs) d = (d.0, d.1, d.2, d.3, many_from L d.1 xs d.4)

-- each after the other, as long as a token of ks comes
pub each : {A : Type 0} (L K : Lang A) (p q : Parser A) (ks is js : Kinds) (D : Levels)
    → Rule L K p q is D → Starts L ks → apart ks is ≡ true → within is js ≡ true → within ks js ≡ true → Rule (lang.many L) (lang.many K) (many ks p) (many ks q) js D
each L K p q ks is js D l starts ki ij kj =
    same (looped (λ s a. s) (λ s. L) (tt {0})) (lang.many L) (looped (λ s a. s) (λ s. K) (tt {0})) (lang.many K) (many ks p) (many ks q) js D
    (record { to = many_to L; from = many_from L }) (record { to = many_to K; from = many_from K })
    (repeated (λ s a. s) (λ s. L) (λ s. K) (λ s. p) (λ s. q) (λ s. ks) is js D (λ s ts h. l) (λ s. starts) (λ s. ki) ij (λ s. kj) (tt {0}))

pub alive_many : {A : Type 0} (L : Lang A) → Begins (lang.many L) []
alive_many L = record { more = []; value = []; derived = refl }
