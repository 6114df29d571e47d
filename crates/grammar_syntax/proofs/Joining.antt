-- One more blank, comment or token behind what was read.
use Rattle.std.proofs.Common.{◌≡◌, ℕ, suc, ◌+◌, ◌<◌, List, [], ◌∷◌, ◌++◌, sym, ◌∙◌, ap, subst, arith, length, length-append, drop, get_or}
use Rattle.std.proofs.Math.Seq.{drop-cons}
use Rattle.std.proofs.lemmas.List.{drop-drop, append-nil}
use Rattle.std.specs.Str.{IsUtf8}
use Rattle.grammar_syntax.specs.declared.token.Token.{Token}
use Rattle.grammar_syntax.specs.declared.token.ScannedToken.{ScannedToken}
use Rattle.grammar_syntax.specs.Lexing.{Lex, finish, gap, token, NoGap, NoToken, IsBadAt}
use Rattle.grammar_syntax.specs.inner.Tokenizing.{IsGapOf, IsFirst}
use Rattle.grammar_syntax.proofs.GapTells.{Cuts}
use Rattle.grammar_syntax.proofs.Ends.{boundary, ends_low}
use Rattle.grammar_syntax.proofs.Parts.{past}

-- one joining after another
joined : {at to end : ℕ} {cs left rest : List ℕ} {ts us : List Token} → Lex at cs ts to left → Lex to left us end rest → Lex at cs (ts ++ us) end rest
joined finish h = h
joined (gap w rest e i g) h = gap w rest e i (joined g h)
joined (token k w rest e l g) h = token k w rest e l (joined g h)

-- what follows the place behind a part that was cut off
behind : (text w rest : List ℕ) (at : ℕ) → drop at text ≡ w ++ rest → drop (at + length w) text ≡ rest
behind text w rest at e = sym (drop-drop (length w) at text) ∙ (ap (λ (x : List ℕ). drop (length w) x) e ∙ past w rest)

pub lex_gap : (text : List ℕ) (ts : List Token) (at len : ℕ) → IsGapOf len (drop at text) → Lex 0 text ts at (drop at text) → Lex 0 text ts (at + len) (drop (at + len) text)
lex_gap text ts at len g h =
    let one : Lex 0 text (ts ++ []) (at + length g.w) g.rest = joined h (gap g.w g.rest g.cut g.is finish) in
    let placed = subst (λ (x : List ℕ). Lex 0 text (ts ++ []) (at + length g.w) x) (sym (behind text g.w g.rest at g.cut)) one in
    let same = subst (λ (x : List Token). Lex 0 text x (at + length g.w) (drop (at + length g.w) text)) (append-nil ts) placed in
    subst (λ (n : ℕ). Lex 0 text ts (at + n) (drop (at + n) text)) g.long same

pub lex_token : (text : List ℕ) (ts grown : List Token) (at : ℕ) (f : ScannedToken) → IsFirst f (drop at text) →
    grown ≡ ts ++ (record { kind = f.kind; start = at; end = at + f.len } ∷ []) → Lex 0 text ts at (drop at text) → Lex 0 text grown (at + f.len) (drop (at + f.len) text)
lex_token text ts grown at f i e h =
    let one = joined h (token f.kind i.w i.rest i.cut i.longest finish) in
    let placed = subst (λ (x : List ℕ). Lex 0 text (ts ++ (record { kind = f.kind; start = at; end = at + length i.w } ∷ [])) (at + length i.w) x) (sym (behind text i.w i.rest at i.cut)) one in
    let sized = subst (λ (n : ℕ). Lex 0 text (ts ++ (record { kind = f.kind; start = at; end = at + n } ∷ [])) (at + n) (drop (at + n) text)) i.len placed in
    subst (λ (x : List Token). Lex 0 text x (at + f.len) (drop (at + f.len) text)) (sym e) sized

pub lex_bad : (text : List ℕ) (ts : List Token) (at : ℕ) → at < length text → NoGap (drop at text) → NoToken (drop at text) → Lex 0 text ts at (drop at text) → IsBadAt text at
lex_bad text ts at lt g n h =
    let cut : drop at text ≡ get_or text at 0 ∷ drop (suc at) text = drop-cons text at 0 lt in
    record {
      tokens = ts;
      here = get_or text at 0;
      rest = drop (suc at) text;
      before = subst (λ (x : List ℕ). Lex 0 text ts at x) cut h;
      no_gap = subst NoGap cut g;
      no_token = subst NoToken cut n;
    }

pub token_cuts : (text : List ℕ) (f : ScannedToken) → IsUtf8 text → IsFirst f text → Cuts text f.len
token_cuts text f u i =
    let low = ends_low f.kind i.w i.longest.is in
    record {
      some = omega (arith, i.len, ap length low.whole, length-append low.front (low.last ∷ []));
      within = omega (arith, i.len, ap length i.cut, length-append i.w i.rest);
      boundary = boundary f.kind text i.w i.rest f.len u i.longest.is i.cut i.len;
    }
