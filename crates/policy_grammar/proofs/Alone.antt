-- The text of each policy by itself: its tokens, and how it stands in its file.
use Rattle.std.proofs.Common.{◌≡◌, ◌⊎◌, inl, inr, ℕ, zero, suc, ◌+◌, ◌-◌, ◌≤◌, Bool, true, false, not, List, [], ◌∷◌}
use Rattle.std.proofs.Common.{◌++◌, length, take, drop, map, refl, sym, ap, ◌∙◌, subst, arith, append_assoc}
use Rattle.std.proofs.Common.{length-append, take-append-drop}
use Rattle.std.specs.Prelude.{encode_utf8, encode_utf8_all, chars, slice_range}
use Rattle.std.specs.List.{AllByRecursion, AllZip, concat}
use Rattle.std.specs.Str.{IsUtf8, IsCharBoundary, trim_start, skip_leading_whitespace}
use Rattle.std.specs.Char.{is_whitespace}
use Rattle.std.proofs.Math.Seq.{take-append_seam}
use Rattle.std.proofs.lemmas.List.{append-nil, drop-drop, map-append}
use Rattle.std.proofs.lemmas.Str.{IsCharBoundary-start, IsUtf8-between, encodes-chars, length-le-encodes}
use Rattle.grammar_desugaring.specs.grammar_syntax.declared.token.Token.{Token}
use Rattle.grammar_desugaring.specs.grammar_syntax.Lexing.{IsLexed, IsGap, blank, Lex, finish, gap, token, IsSpelledIn}
use Rattle.grammar_parsing.proofs.of_grammar_syntax.Unique.{gap_token, same_gap}
use Rattle.grammar_parsing.proofs.of_grammar_syntax.Parts.{past}
use Rattle.grammar_parsing.proofs.of_grammar_syntax.Spelled.{all_spelled}
use Rattle.policy_grammar.specs.Cuts.{is_end, parts_from, left_from, IsSelfContained, EachIsSelfContained, IsSpaced, EachIsSpaced}
use Rattle.policy_grammar.specs.Cuts.{PartsJoin}
use Rattle.policy_grammar.proofs.Splitting.{NoEnd, FirstPart, split}

-- ---- parts, one behind the other

cut_drop : (text : List ℕ) (from to : ℕ) → from ≤ to → drop from text ≡ slice_range text from to ++ drop to text
cut_drop text from to h =
    let same : from + (to - from) ≡ to = omega arith in
    sym (take-append-drop (to - from) (drop from text)) ∙ ap (λ (x : List ℕ). slice_range text from to ++ x) (drop-drop (to - from) from text ∙ ap (λ (n : ℕ). drop n text) same)

join_at : (b : Bool) (text : List ℕ) (from : ℕ) (t : Token) (ts : List Token) → is_end t.kind ≡ b → from ≤ t.end
    → drop from text ≡ concat (parts_from text from ts) ++ drop (left_from from ts) text
    → drop t.end text ≡ concat (parts_from text t.end ts) ++ drop (left_from t.end ts) text
    → drop from text ≡ concat (parts_from text from (t ∷ ts)) ++ drop (left_from from (t ∷ ts)) text
join_at true text from t ts h l same next =
    rw h (
    cut_drop text from t.end l
    ∙ ap (λ (x : List ℕ). slice_range text from t.end ++ x) next
    ∙ sym (append_assoc (slice_range text from t.end) (concat (parts_from text t.end ts)) (drop (left_from t.end ts) text)))
join_at false text from t ts h l same next = rw h same

join : {at to : ℕ} {tail left : List ℕ} {ts : List Token} (text : List ℕ) (from : ℕ) → from ≤ at → Lex at tail ts to left → drop from text ≡ concat (parts_from text from ts) ++ drop (left_from from ts) text
join text from h finish = refl
join text from h (gap w rest e i g) = join text from (omega arith) g
join {at} text from h (token {ts} k w rest e i g) =
    join_at (is_end k) text from (record { kind = k; start = at; end = at + length w }) ts refl (omega arith) (join text from (omega arith) g) (join text (at + length w) (omega arith) g)

pub parts_join : PartsJoin
parts_join text ts h = join text 0 (omega arith) h.1

-- ---- a part by itself

-- its tokens from some place on, of which the last alone ends a policy, at the part's end
pub record IsPart (w : List ℕ) : Type 0 where
  pub utf8 : IsUtf8 w
  pub at : ℕ
  pub before : List Token
  pub last : Token
  pub lexed : Lex at w (before ++ last ∷ []) (at + length w) []
  pub none_before : NoEnd before
  pub ends : is_end last.kind ≡ true
  pub at_end : last.end ≡ at + length w

parts_none : (text : List ℕ) (from : ℕ) (ts : List Token) → NoEnd ts → parts_from text from ts ≡ []
parts_none text from [] n = refl
parts_none text from (t ∷ ts) n = rw (n.0) (parts_none text from ts n.1)

pub parts_first : (text : List ℕ) (from : ℕ) (before : List Token) (last : Token) (more : List Token) → NoEnd before → is_end last.kind ≡ true
    → parts_from text from (before ++ last ∷ more) ≡ slice_range text from last.end ∷ parts_from text last.end more
parts_first text from [] last more n e = rw e refl
parts_first text from (t ∷ before) last more n e = rw (n.0) (parts_first text from before last more n.1 e)

pub last_of : (P : Token → Type 0) (before : List Token) (last : Token) (more : List Token) → AllByRecursion P (before ++ last ∷ more) → P last × AllByRecursion P more
last_of P [] last more h = h
last_of P (t ∷ before) last more h = last_of P before last more h.1

shorter : (before : List Token) (last : Token) (more : List Token) (n : ℕ) → length (before ++ last ∷ more) ≤ suc n → length more ≤ n
shorter [] last more n h = omega (arith, h)
shorter (t ∷ before) last more zero h = absurd (omega (arith, h, length-append before (last ∷ more)))
shorter (t ∷ before) last more (suc n) h = let less : length more ≤ n = shorter before last more n (omega (arith, h)) in omega arith

pub part_is : (text part rest : List ℕ) (from to : ℕ) → drop from text ≡ part ++ rest → to ≡ from + length part → slice_range text from to ≡ part
part_is text part rest from to e l =
    let n : to - from ≡ length part = omega arith in
    ap (λ (m : ℕ). take m (drop from text)) n ∙ ap (λ (x : List ℕ). take (length part) x) e ∙ take-append_seam part rest

pub rest_is : (text part rest : List ℕ) (from to : ℕ) → drop from text ≡ part ++ rest → to ≡ from + length part → drop to text ≡ rest
rest_is text part rest from to e l =
    ap (λ (n : ℕ). drop n text) l ∙ sym (drop-drop (length part) from text) ∙ ap (λ (x : List ℕ). drop (length part) x) e ∙ past part rest

part_stands : (n : ℕ) (text : List ℕ) (from to : ℕ) (ts : List Token) → length ts ≤ n → IsUtf8 text → IsCharBoundary text from → AllByRecursion (IsSpelledIn text) ts
    → NoEnd ts ⊎ FirstPart from to (drop from text) ts → AllByRecursion IsPart (parts_from text from ts)
part_stands n text from to ts l u c s (inl none) = subst (AllByRecursion IsPart) (sym (parts_none text from ts none)) tt
part_stands zero text from to ts l u c s (inr f) = absurd (omega (arith, l, ap length f.tokens, length-append f.before (f.last ∷ f.more)))
part_stands (suc n) text from to ts l u c s (inr f) =
    let spelled = last_of (IsSpelledIn text) f.before f.last f.more (subst (AllByRecursion (IsSpelledIn text)) f.tokens s) in
    let is = part_is text f.part f.rest from f.last.end f.whole f.at_end in
    let left = rest_is text f.part f.rest from f.last.end f.whole f.at_end in
    let utf8 : IsUtf8 (slice_range text from f.last.end) = IsUtf8-between text from f.last.end u (omega (arith, f.at_end)) c spelled.0.end_cut in
    let one : IsPart f.part = record {
      utf8 = subst IsUtf8 is utf8;
      at = from;
      before = f.before;
      last = f.last;
      lexed = f.lexed;
      none_before = f.none_before;
      ends = f.ends;
      at_end = f.at_end;
    } in
    let more : AllByRecursion IsPart (parts_from text f.last.end f.more) =
    part_stands n text f.last.end to f.more (shorter f.before f.last f.more n (subst (λ (x : List Token). length x ≤ suc n) f.tokens l)) u spelled.0.end_cut spelled.1
    (split (subst (λ (x : List ℕ). Lex f.last.end x f.more to []) (sym left) (subst (λ (m : ℕ). Lex m f.rest f.more to []) (sym f.at_end) f.behind))) in
    subst (AllByRecursion IsPart) (sym (ap (parts_from text from) f.tokens ∙ parts_first text from f.before f.last f.more f.none_before f.ends)) (subst IsPart (sym is) one, more)

pub all_parts : (text : List ℕ) (ts : List Token) → IsUtf8 text → IsLexed text ts → AllByRecursion IsPart (parts_from text 0 ts)
all_parts text ts u h = part_stands (length ts) text 0 h.0 ts (omega arith) u (IsCharBoundary-start text u) (all_spelled text [] u refl refl h.1) (split h.1)

-- ---- without the white space in front

blank_start : (c : ℕ) (r : List ℕ) → is_whitespace c ≡ true → IsGap (encode_utf8 c) r
blank_start c r h = blank c h refl

some_bytes : (c : ℕ) → 1 ≤ length (encode_utf8 c)
some_bytes c = let least = length-le-encodes (c ∷ []) in omega (arith, least, ap length (append-nil (encode_utf8 c)))

-- a joining that begins with a character of white space is one behind it
past_blank : {at to : ℕ} {tail : List ℕ} {ts : List Token} (c : ℕ) (r : List ℕ) → is_whitespace c ≡ true → tail ≡ encode_utf8 c ++ r → Lex at tail ts to []
    → Lex (at + length (encode_utf8 c)) r ts to []
past_blank c r h e finish = absurd (let some = some_bytes c in omega (arith, some, ap length e, length-append (encode_utf8 c) r))
past_blank {at} {to} {tail} {ts} c r h e (gap w rest f i g) =
    let same : length w ≡ length (encode_utf8 c) = same_gap w rest (encode_utf8 c) r i (blank_start c r h) (sym f ∙ e) in
    let left : rest ≡ r = sym (past w rest) ∙ ap (λ (x : List ℕ). drop (length w) x) (sym f ∙ e) ∙ ap (λ (n : ℕ). drop n (encode_utf8 c ++ r)) same ∙ past (encode_utf8 c) r in
    subst (λ (n : ℕ). Lex (at + n) r ts to []) same (subst (λ (x : List ℕ). Lex (at + length w) x ts to []) left g)
past_blank c r h e (token k w rest f i g) = absurd (gap_token (encode_utf8 c) r w rest k (blank_start c r h) i.is (sym e ∙ f))

-- the characters behind the white space, from some place on
pub record IsTrimmed (cs : List ℕ) (ts : List Token) (to : ℕ) : Type 0 where
  pub at : ℕ
  pub lexed : Lex at (encode_utf8_all (skip_leading_whitespace cs)) ts to []

trimmed_at : (b : Bool) (c : ℕ) (cs : List ℕ) (at to : ℕ) (ts : List Token) → is_whitespace c ≡ b → Lex at (encode_utf8_all (c ∷ cs)) ts to []
    → (is_whitespace c ≡ true → IsTrimmed cs ts to) → IsTrimmed (c ∷ cs) ts to
trimmed_at true c cs at to ts w h behind = let more = behind w in record { at = more.at; lexed = rw w more.lexed }
trimmed_at false c cs at to ts w h behind = record { at = at; lexed = rw w h }

pub trimmed : (cs : List ℕ) (at to : ℕ) (ts : List Token) → Lex at (encode_utf8_all cs) ts to [] → IsTrimmed cs ts to
trimmed [] at to ts h = record { at = at; lexed = h }
trimmed (c ∷ cs) at to ts h =
    trimmed_at (is_whitespace c) c cs at to ts refl h (λ w. trimmed cs (at + length (encode_utf8 c)) to ts (past_blank c (encode_utf8_all cs) w refl h))

-- white space, and the text behind it
spaced_at : (b : Bool) (c : ℕ) (cs : List ℕ) → is_whitespace c ≡ b → IsSpaced (encode_utf8_all cs) (encode_utf8_all (skip_leading_whitespace cs))
    → IsSpaced (encode_utf8_all (c ∷ cs)) (encode_utf8_all (skip_leading_whitespace (c ∷ cs)))
spaced_at true c cs w more =
    rw w (record {
      space = encode_utf8 c ++ more.space;
      is_space = (c ∷ more.is_space.0, ap (λ (x : List ℕ). encode_utf8 c ++ x) more.is_space.1, (ap not w, more.is_space.2));
      whole = ap (λ (x : List ℕ). encode_utf8 c ++ x) more.whole ∙ sym (append_assoc (encode_utf8 c) more.space (encode_utf8_all (skip_leading_whitespace cs)));
    })
spaced_at false c cs w more = rw w (record { space = []; is_space = ([], refl, tt); whole = refl })

spaced : (cs : List ℕ) → IsSpaced (encode_utf8_all cs) (encode_utf8_all (skip_leading_whitespace cs))
spaced [] = record { space = []; is_space = ([], refl, tt); whole = refl }
spaced (c ∷ cs) = spaced_at (is_whitespace c) c cs refl (spaced cs)

pub part_spaced : (w : List ℕ) → IsUtf8 w → IsSpaced w (trim_start w)
unfolding trim_start
part_spaced w u = subst (λ (x : List ℕ). IsSpaced x (encode_utf8_all (skip_leading_whitespace (chars w)))) (encodes-chars w u) (spaced (chars w))

-- ---- places counted from the start of the text

abbrev pub back : ℕ → Token → Token
back at t = record { kind = t.kind; start = t.start - at; end = t.end - at }

pub record IsMoved (at k q : ℕ) (tail left : List ℕ) (ts : List Token) : Type 0 where
  pub end : ℕ
  pub same : q ≡ at + end
  pub lexed : Lex k tail (map (back at) ts) end left

pub moved : {p q : ℕ} {tail left : List ℕ} {ts : List Token} (at k : ℕ) → p ≡ at + k → Lex p tail ts q left → IsMoved at k q tail left ts
moved at k e finish = record { end = k; same = e; lexed = finish }
moved at k e (gap w rest f i g) =
    let more = moved at (k + length w) (omega arith) g in
    record { end = more.end; same = more.same; lexed = gap w rest f i more.lexed }
moved {p} {q} {tail} {left} at k e (token {ts} kind w rest f i g) =
    let more = moved at (k + length w) (omega arith) g in
    let start : k ≡ p - at = omega arith in
    let end : k + length w ≡ p + length w - at = omega arith in
    record {
      end = more.end;
      same = more.same;
      lexed =
          subst (λ (n : ℕ). Lex k tail (record { kind = kind; start = n; end = p + length w - at } ∷ map (back at) ts) more.end left) start
          (subst (λ (n : ℕ). Lex k tail (record { kind = kind; start = k; end = n } ∷ map (back at) ts) more.end left) end (token kind w rest f i more.lexed));
    }

pub lex_len : {p q : ℕ} {tail left : List ℕ} {ts : List Token} → Lex p tail ts q left → p + length tail ≡ q + length left
lex_len finish = refl
lex_len (gap w rest f i g) = let more = lex_len g in omega (arith, ap length f, length-append w rest)
lex_len (token k w rest f i g) = let more = lex_len g in omega (arith, ap length f, length-append w rest)

no_end_back : (at : ℕ) (ts : List Token) → NoEnd ts → NoEnd (map (back at) ts)
no_end_back at [] h = tt
no_end_back at (t ∷ ts) h = (h.0, no_end_back at ts h.1)

alone_from : (w : List ℕ) (at to : ℕ) (before : List Token) (last : Token) → Lex at w (before ++ last ∷ []) to [] → NoEnd before → is_end last.kind ≡ true → last.end ≡ to → IsSelfContained w
alone_from w at to before last h n e l =
    let all = lex_len h in
    let m = moved at 0 (omega arith) h in
    record {
      before = map (back at) before;
      last = back at last;
      lexed = (m.end, subst (λ (ts : List Token). Lex 0 w ts m.end []) (map-append (back at) before (last ∷ [])) m.lexed);
      none_before = no_end_back at before n;
      ends = e;
      at_end = omega arith;
    }

part_alone : (w : List ℕ) → IsPart w → IsSelfContained (trim_start w)
unfolding trim_start
part_alone w p =
    let t = trimmed (chars w) p.at (p.at + length w) (p.before ++ p.last ∷ []) (subst (λ (x : List ℕ). Lex p.at x (p.before ++ p.last ∷ []) (p.at + length w) []) (sym (encodes-chars w p.utf8)) p.lexed) in
    alone_from (encode_utf8_all (skip_leading_whitespace (chars w))) t.at (p.at + length w) p.before p.last t.lexed p.none_before p.ends p.at_end

all_alone : (ws : List (List ℕ)) → AllByRecursion IsPart ws → AllByRecursion IsSelfContained (map trim_start ws)
all_alone [] h = tt
all_alone (w ∷ ws) h = (part_alone w h.0, all_alone ws h.1)

all_spaced : (ws : List (List ℕ)) → AllByRecursion IsPart ws → AllZip IsSpaced ws (map trim_start ws)
all_spaced [] h = tt
all_spaced (w ∷ ws) h = (part_spaced w h.0.utf8, all_spaced ws h.1)

pub each_alone : EachIsSelfContained
each_alone text ts u h = all_alone (parts_from text 0 ts) (all_parts text ts u h)

pub each_spaced : EachIsSpaced
each_spaced text ts u h = all_spaced (parts_from text 0 ts) (all_parts text ts u h)
