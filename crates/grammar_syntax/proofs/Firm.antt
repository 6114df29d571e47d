-- A reader stops for a token at no place at which a tree ends: there it ends too.
use Rattle.std.proofs.Common.{◌≡◌, ◌⊎◌, inl, inr, ℕ, zero, suc, Bool, true, false, List, [], ◌∷◌, ◌++◌, length, Option, Some, None, refl, sym, ap, subst, ◌∙◌, append_assoc, append-nil, length-append, arith}
use Rattle.grammar_syntax.specs.declared.token.Token.{Token}
use Rattle.grammar_syntax.specs.declared.token.TokenKind.{TokenKind}
use Rattle.grammar_syntax.specs.Kinds.{Kinds}
use Rattle.grammar_syntax.specs.Lang.{Lang, Joined}
use Rattle.grammar_syntax.specs.Lang as lang
use Rattle.grammar_syntax.specs.ParserCombinators.{Parser, Read, Stop, Unexpected, ◌>>=◌, ◌>>◌, pure, token, either, too_deep, optional, gate, loop_from, loop, many}
use Rattle.grammar_syntax.specs.ParseResults.{sees}
use Rattle.grammar_syntax.proofs.Sets.{apart, within, sees-append}
use Rattle.grammar_syntax.proofs.Rules.{Rule, Levels, stop_either, recut}
use Rattle.grammar_syntax.proofs.Forms.{Starts, Leads, one, nothing, leads_empty, choice, not_stop, nothing_read}
use Rattle.grammar_syntax.proofs.More.{Same}
use Rattle.grammar_syntax.proofs.Many.{looped, turn, turn_stops, viable_many, unseen, some_token, many_from}
use Rattle.grammar_syntax.proofs.Steps.{none, free}
use Rattle.grammar_syntax.proofs.Openings.{Opening}

pub record Firm {A : Type 0} (L : Lang A) (p : Parser A) : Type 0 where
  pub at : (front : List Token) (b : Token) (more : List Token) (x : A) → p (front ++ b ∷ more) ≡ Stop Unexpected (b ∷ more) → L front x → ⊥

-- it does not stop for a token of the set at once
pub record Fresh {A : Type 0} (ks : Kinds) (p : Parser A) : Type 0 where
  pub at : (b : Token) (more : List Token) → ks b.kind ≡ true → p (b ∷ more) ≡ Stop Unexpected (b ∷ more) → ⊥

-- no piece is empty
pub record Solid {A : Type 0} (L : Lang A) : Type 0 where
  pub at : (x : A) → L [] x → ⊥

pub solid_starts : {A : Type 0} {L : Lang A} (ks : Kinds) → Starts L ks → Solid L
solid_starts ks starts = record { at = λ x d. let seen = starts [] x d in absurd (cc) }

pub solid_or : {A : Type 0} {L M : Lang A} → Solid L → Solid M → Solid (lang.◌or◌ L M)
solid_or {L = L} {M = M} l m = record { at = λ x d. solid_either l m x d }
  where
    solid_either : Solid L → Solid M → (x : _) → lang.◌or◌ L M [] x → ⊥
    solid_either l m x (inl d) = l.at x d
    solid_either l m x (inr d) = m.at x d

pub fresh_opening : {A : Type 0} {L : Lang A} {p : Parser A} {ks js : Kinds} {D : Levels} → Rule L L p p js D → Opening L ks → Fresh ks p
fresh_opening {p = p} rule opening = record {
  at = λ b more e h.
      let o = opening b e in
      let read : p ((b ∷ o.more) ++ []) ≡ Read o.value [] = rule.complete (b ∷ o.more) o.value [] o.derived refl in
      let stop : p (b ∷ o.more) ≡ Stop Unexpected (b ∷ o.more) = rule.local.stop Unexpected tt [] b more o.more h in
      not_stop o.value Unexpected [] (b ∷ o.more) (sym read ∙ ap p (append-nil (b ∷ o.more)) ∙ stop);
}

-- where anything may follow
pub firm_free : {A : Type 0} {L : Lang A} {p : Parser A} {D : Levels} → Rule L L p p none D → Firm L p
firm_free rule = record { at = λ front b more x h d. not_stop x Unexpected (b ∷ more) (b ∷ more) (sym (rule.complete front x (b ∷ more) d refl) ∙ h) }

pub firm_nothing : {A : Type 0} (a : A) → Firm (lang.empty a) (pure a)
firm_nothing a = record { at = λ front b more x h d. not_stop a Unexpected (front ++ b ∷ more) (b ∷ more) h }

pub firm_never : {A : Type 0} (p : Parser A) → Firm lang.never p
firm_never p = record { at = λ front b more x h d. d }

pub firm_same : {A : Type 0} {L M : Lang A} {p : Parser A} → Same L M → Firm L p → Firm M p
firm_same s firm = record { at = λ front b more x h d. firm.at front b more x h (s.from front x d) }

pub firm_alike : {A : Type 0} {L : Lang A} {p q : Parser A} → p ≡ q → Firm L p → Firm L q
firm_alike {L = L} e firm = subst (λ z. Firm L z) e firm

-- ---- one after another

-- the first piece is not where it stops, if nothing is left or what is left does not go on with it
pub stops_first : {A : Type 0} {L : Lang A} {p : Parser A} {ks : Kinds} {D : Levels} → Rule L L p p ks D → Firm L p → (one two : List Token) (v : A) (b : Token) (more : List Token)
    → L one v → sees ks two ≡ false → p ((one ++ two) ++ b ∷ more) ≡ Stop Unexpected (b ∷ more) → ⊥
stops_first {p = p} rule firm one [] v b more d s h = firm.at one b more v (ap (λ z. p (z ++ b ∷ more)) (sym (append-nil one)) ∙ h) d
stops_first {p = p} rule firm one (c ∷ z) v b more d s h =
    let was : p (one ++ c ∷ z) ≡ Read v (c ∷ z) = rule.complete one v (c ∷ z) d s in
    let now : p (one ++ c ∷ (z ++ b ∷ more)) ≡ Read v (c ∷ (z ++ b ∷ more)) = rule.local.read one c z (z ++ b ∷ more) v was in
    not_stop v Unexpected (c ∷ (z ++ b ∷ more)) (b ∷ more) (sym now ∙ ap p (sym (append_assoc one (c ∷ z) (b ∷ more))) ∙ h)

read_less : {A : Type 0} {L : Lang A} {p : Parser A} {ks : Kinds} {D : Levels} → Rule L L p p ks D → (one two : List Token) (b : Token) (more : List Token) (a : A)
    → L one a → p (one ++ (two ++ b ∷ more)) ≡ Read a (two ++ b ∷ more) → p (one ++ two) ≡ Read a two
read_less rule one [] b more a d h = rule.complete one a [] d refl
read_less rule one (c ∷ z) b more a d h = rule.local.read one c (z ++ b ∷ more) z a h

-- the first piece is the one that was read
pub same_cut : {A : Type 0} {L : Lang A} {p : Parser A} {ks : Kinds} {D : Levels} → Rule L L p p ks D → (front : List Token) (b : Token) (more one two : List Token) (v : A)
    → front ≡ one ++ two → L one v → sees ks two ≡ false → (others : List Token) (a : A) (mid : List Token)
    → p (front ++ b ∷ more) ≡ Read a mid → mid ≡ others ++ b ∷ more → (v ≡ a) × (two ≡ others)
same_cut {p = p} rule front b more one two v cut d s others a mid h e =
    let x = rule.sound (front ++ b ∷ more) a mid h in
    let at : front ≡ x.front ++ others = recut front x.front others mid (b ∷ more) x.whole e in
    let was : p (x.front ++ (others ++ b ∷ more)) ≡ Read a (others ++ b ∷ more) =
    ap p (sym (append_assoc x.front others (b ∷ more)) ∙ ap (λ z. z ++ b ∷ more) (sym at)) ∙ h ∙ ap (Read a) e in
    let read : p front ≡ Read a others = ap p at ∙ read_less rule x.front others b more a x.derived was in
    let own : p front ≡ Read v two = ap p cut ∙ rule.complete one v two d s in
    nothing_read v a two others (sym own ∙ read)

-- behind a list that ends there nothing is seen
unseen_end : (ks : Kinds) (ts : List Token) → sees ks (ts ++ []) ≡ false → sees ks ts ≡ false
unseen_end ks ts h = ap (sees ks) (sym (append-nil ts)) ∙ h

firm_both : {A B : Type 0} {L : Lang A} {p : Parser A} {M : A → Lang B} {f : A → Parser B} {ks js : Kinds} {D : Levels}
    → Rule L L p p ks D → ((a : A) → Rule (M a) (M a) (f a) (f a) js D) → ((a : A) → Leads (M a) ks js) → Firm L p → ((a : A) → Firm (M a) (f a))
    → (front : List Token) (b : Token) (more : List Token) (x : B) → (p >>= f) (front ++ b ∷ more) ≡ Stop Unexpected (b ∷ more) → Joined L M front x → ⊥
firm_both {p = p} {M = M} {f = f} {ks = ks} l m leads first second front b more x h j =
    let seen : sees ks j.back ≡ false = unseen_end ks j.back (leads j.value j.back x [] j.second refl) in
    elim (stop_either (p (front ++ b ∷ more)) f Unexpected (b ∷ more) h) [
      | inl s ↦ stops_first l first j.front j.back j.value b more j.first seen (ap (λ z. p (z ++ b ∷ more)) (sym j.whole) ∙ s)
      | inr s ↦ (let y = (m s.value).viable s.mid Unexpected (b ∷ more) s.second in
          let same = same_cut l front b more j.front j.back j.value j.whole j.first seen y.front s.value s.mid s.first y.whole in
          (second s.value).at y.front b more x (ap (f s.value) (sym y.whole) ∙ s.second) (subst (λ a. M a y.front x) same.0 (subst (λ z. M j.value z x) same.1 j.second)))
    ]

pub firm_seq : {A B : Type 0} {L : Lang A} {p : Parser A} {M : A → Lang B} {f : A → Parser B} {ks js : Kinds} {D : Levels}
    → Rule L L p p ks D → ((a : A) → Rule (M a) (M a) (f a) (f a) js D) → ((a : A) → Leads (M a) ks js) → Firm L p → ((a : A) → Firm (M a) (f a))
    → Firm (lang.◌>>=◌ L M) (p >>= f)
firm_seq l m leads first second = record { at = firm_both l m leads first second }

-- a token, and then a piece
pub firm_token : {B : Type 0} (k : TokenKind) (js : Kinds) (D : Levels) {M : Lang B} {f : Parser B} → Rule M M f f js D → Firm M f → Firm (lang.◌>>◌ (lang.one k) M) (token k >> f)
firm_token k js D {M = M} m firm = firm_seq (one k none D) (λ _. m) (λ _. free M js) (firm_free (one k none D)) (λ _. firm)

-- a piece, put together
pub firm_giving : {A B : Type 0} {L : Lang A} {p : Parser A} {ks : Kinds} {D : Levels} → Rule L L p p ks D → (js : Kinds) → within ks js ≡ true → (f : A → B) → Firm L p
    → Firm (lang.◌giving◌ L f) (p >>= (λ x. pure (f x)))
firm_giving {ks = ks} {D = D} l js w f firm = firm_seq l (λ x. nothing (f x) js D) (λ x. leads_empty (f x) ks js w) firm (λ x. firm_nothing (f x))

-- ---- one of two

firm_right : {A : Type 0} {M : Lang A} {p : Parser A} (ks js : Kinds) → Leads M ks js → Fresh ks p ⊎ Solid M → (front : List Token) (b : Token) (more : List Token) (x : A)
    → sees ks (front ++ b ∷ more) ≡ true → p (front ++ b ∷ more) ≡ Stop Unexpected (b ∷ more) → M front x → ⊥
firm_right ks js leads (inl fresh) [] b more x seen h d = fresh.at b more seen h
firm_right ks js leads (inr solid) [] b more x seen h d = solid.at x d
firm_right ks js leads fresh (t ∷ front) b more x seen h d = let unseen' : ks t.kind ≡ false = leads (t ∷ front) x [] d refl in absurd (cc)

firm_either : {A : Type 0} {L M : Lang A} {p q : Parser A} (ks js : Kinds) → Starts L ks → Leads M ks js → Firm L p → Firm M q → Fresh ks p ⊎ Solid M
    → (front : List Token) (b : Token) (more : List Token) (x : A) → either ks p q (front ++ b ∷ more) ≡ Stop Unexpected (b ∷ more) → lang.◌or◌ L M front x → ⊥
firm_either {p = p} {q = q} ks js starts leads first second fresh front b more x h (inl d) =
    elim (choice (sees ks (front ++ b ∷ more)) p q (front ++ b ∷ more) (Stop Unexpected (b ∷ more)) h) [
      | inl c ↦ first.at front b more x c.1 d
      | inr c ↦ (let seen = sees-append ks front (b ∷ more) (starts front x d) in let unseen' = c.0 in absurd (cc))
    ]
firm_either {L = L} {M = M} {p = p} {q = q} ks js starts leads first second fresh front b more x h (inr d) =
    elim (choice (sees ks (front ++ b ∷ more)) p q (front ++ b ∷ more) (Stop Unexpected (b ∷ more)) h) [
      | inl c ↦ firm_right {M = M} {p = p} ks js leads fresh front b more x c.0 c.1 d
      | inr c ↦ second.at front b more x c.1 d
    ]

pub firm_or : {A : Type 0} {L M : Lang A} {p q : Parser A} (ks js : Kinds) → Starts L ks → Leads M ks js → Firm L p → Firm M q → Fresh ks p ⊎ Solid M
    → Firm (lang.◌or◌ L M) (either ks p q)
firm_or {L = L} {M = M} {p = p} {q = q} ks js starts leads first second fresh = record { at = firm_either {L = L} {M = M} {p = p} {q = q} ks js starts leads first second fresh }

not_deep : {A : Type 0} (ts rest : List Token) → too_deep {A = A} ts ≡ Stop Unexpected rest → ⊥
not_deep ts rest h = cc

firm_closed : {A : Type 0} {M : Lang A} {q : Parser A} (ks : Kinds) → Firm M q
    → (front : List Token) (b : Token) (more : List Token) (x : A) → either ks too_deep q (front ++ b ∷ more) ≡ Stop Unexpected (b ∷ more) → lang.◌or◌ lang.never M front x → ⊥
firm_closed ks second front b more x h (inl d) = d
firm_closed {q = q} ks second front b more x h (inr d) =
    elim (choice (sees ks (front ++ b ∷ more)) too_deep q (front ++ b ∷ more) (Stop Unexpected (b ∷ more)) h) [
      | inl c ↦ not_deep (front ++ b ∷ more) (b ∷ more) c.1
      | inr c ↦ second.at front b more x c.1 d
    ]

pub firm_gated : {A : Type 0} {L M : Lang A} {p q : Parser A} (o : Bool) (ks js : Kinds) → Starts L ks → Leads M ks js → (o ≡ true → Firm L p) → Firm M q → (o ≡ true → Fresh ks p ⊎ Solid M)
    → Firm (lang.◌or◌ (lang.gate o L) M) (either ks (gate o p) q)
firm_gated true ks js starts leads first second fresh = firm_or ks js starts leads (first refl) second (fresh refl)
firm_gated false ks js starts leads first second fresh = record { at = firm_closed ks second }

-- ---- perhaps

firm_perhaps : {A : Type 0} {L : Lang A} {p : Parser A} {ks : Kinds} → Firm L p → Fresh ks p → (front : List Token) (b : Token) (more : List Token) (o : Option A)
    → sees ks (front ++ b ∷ more) ≡ true → p (front ++ b ∷ more) ≡ Stop Unexpected (b ∷ more) → lang.optional L front o → ⊥
firm_perhaps {p = p} {ks = ks} firm fresh front b more None seen h d =
    fresh.at b more (ap (λ z. sees ks (z ++ b ∷ more)) (sym d) ∙ seen) (ap (λ z. p (z ++ b ∷ more)) (sym d) ∙ h)
firm_perhaps firm fresh front b more (Some a) seen h d = firm.at front b more a h d

firm_optional : {A : Type 0} {L : Lang A} {p : Parser A} {ks : Kinds} → Firm L p → Fresh ks p → (front : List Token) (b : Token) (more : List Token) (o : Option A)
    → optional ks p (front ++ b ∷ more) ≡ Stop Unexpected (b ∷ more) → lang.optional L front o → ⊥
firm_optional {p = p} {ks = ks} firm fresh front b more o h d =
    elim (choice (sees ks (front ++ b ∷ more)) (p >>= (λ a. pure (Some a))) (pure None) (front ++ b ∷ more) (Stop Unexpected (b ∷ more)) h) [
      | inl c ↦ elim (stop_either (p (front ++ b ∷ more)) (λ a. pure (Some a)) Unexpected (b ∷ more) c.1) [
        | inl s ↦ firm_perhaps firm fresh front b more o c.0 s d
        | inr s ↦ not_stop (Some s.value) Unexpected s.mid (b ∷ more) s.second
      ]
      | inr c ↦ not_stop None Unexpected (front ++ b ∷ more) (b ∷ more) c.1
    ]

pub firm_maybe : {A : Type 0} {L : Lang A} {p : Parser A} {ks : Kinds} → Firm L p → Fresh ks p → Firm (lang.optional L) (optional ks p)
firm_maybe firm fresh = record { at = firm_optional firm fresh }

-- ---- repetition

module _ {S A : Type 0} (next : S → A → S) (L : S → Lang A) (p : S → Parser A) (ks : S → Kinds) (is js : Kinds) (D : Levels)
    (l : (s : S) (ts : List Token) → sees (ks s) ts ≡ true → Rule (L s) (L s) (p s) (p s) is D) (starts : (s : S) → Starts (L s) (ks s)) (ki : (s : S) → apart (ks s) is ≡ true) (ij : within is js ≡ true)
    (kj : (s : S) → within (ks s) js ≡ true) (firm : (s : S) → Firm (L s) (p s)) (fresh : (s : S) → Fresh (ks s) (p s)) where
  firm_loop : (n : ℕ) (st : S) (front : List Token) (b : Token) (more : List Token) (xs : List A) → loop_from next ks p n st (front ++ b ∷ more) ≡ Stop Unexpected (b ∷ more) → looped next L st front xs → ⊥
  unfolding loop_from
  firm_loop zero st front b more xs h d = not_stop [] Unexpected (front ++ b ∷ more) (b ∷ more) h
  firm_loop (suc n) st front b more [] h d = elim (choice (sees (ks st) (front ++ b ∷ more)) (turn next ks p n st) (pure []) (front ++ b ∷ more) (Stop Unexpected (b ∷ more)) h) [
    | inl c ↦ elim (turn_stops next ks p n st (front ++ b ∷ more) Unexpected (b ∷ more) c.1) [
      | inl s ↦ (fresh st).at b more (ap (λ z. sees (ks st) (z ++ b ∷ more)) (sym d) ∙ c.0) (ap (λ z. p st (z ++ b ∷ more)) (sym d) ∙ s)
      | inr t ↦ (let x = (l st (front ++ b ∷ more) c.0).sound (front ++ b ∷ more) t.head t.mid t.one in
          let y = viable_many next L L p p ks is js D l starts ki ij kj n (next st t.head) t.mid Unexpected (b ∷ more) t.others in
          let at : front ≡ x.front ++ y.front = recut front x.front y.front t.mid (b ∷ more) x.whole y.whole in
          absurd (omega (arith, some_token (ks st) x.front (starts st x.front t.head x.derived), ap length (sym d ∙ at), length-append x.front y.front)))
    ]
    | inr c ↦ not_stop [] Unexpected (front ++ b ∷ more) (b ∷ more) c.1
  ]
  firm_loop (suc n) st front b more (x ∷ xs) h d = elim (choice (sees (ks st) (front ++ b ∷ more)) (turn next ks p n st) (pure []) (front ++ b ∷ more) (Stop Unexpected (b ∷ more)) h) [
    | inl c ↦ (let seen : sees is d.1 ≡ false = unseen_end is d.1 (unseen next L L p p ks is js D l starts ki ij kj (next st x) d.1 xs [] d.4 refl) in
        elim (turn_stops next ks p n st (front ++ b ∷ more) Unexpected (b ∷ more) c.1) [
          | inl s ↦ stops_first (l st (front ++ b ∷ more) c.0) (firm st) d.0 d.1 x b more d.3 seen (ap (λ z. p st (z ++ b ∷ more)) (sym d.2) ∙ s)
          | inr t ↦ (let y = viable_many next L L p p ks is js D l starts ki ij kj n (next st t.head) t.mid Unexpected (b ∷ more) t.others in
              let same = same_cut (l st (front ++ b ∷ more) c.0) front b more d.0 d.1 x d.2 d.3 seen y.front t.head t.mid t.one y.whole in
              firm_loop n (next st t.head) y.front b more xs (ap (loop_from next ks p n (next st t.head)) (sym y.whole) ∙ t.others)
              (subst (λ a. looped next L (next st a) y.front xs) same.0 (subst (λ z. looped next L (next st x) z xs) same.1 d.4)))
        ])
    | inr c ↦ not_stop [] Unexpected (front ++ b ∷ more) (b ∷ more) c.1
  ]

  pub firm_repeated : (st : S) → Firm (looped next L st) (loop next ks p st)
  firm_repeated st = record { at = λ front b more xs h d. firm_loop (length (front ++ b ∷ more)) st front b more xs h d }

pub firm_each : {A : Type 0} (L : Lang A) (p : Parser A) (ks is js : Kinds) (D : Levels) → Rule L L p p is D → Starts L ks → apart ks is ≡ true → within is js ≡ true → within ks js ≡ true
    → Firm L p → Fresh ks p → Firm (lang.many L) (many ks p)
firm_each L p ks is js D l starts ki ij kj firm fresh =
    let repeated = firm_repeated (λ s a. s) (λ s. L) (λ s. p) (λ s. ks) is js D (λ s ts h. l) (λ s. starts) (λ s. ki) ij (λ s. kj) (λ s. firm) (λ s. fresh) (tt {0}) in
    record { at = λ front b more xs h d. repeated.at front b more xs h (many_from L front xs d) }
