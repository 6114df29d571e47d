-- Paths are read exactly, and so are uids, though a Path and what stands behind it begin alike.
use Rattle.std.proofs.Common.{◌≡◌, Bool, true, false, List, [], ◌∷◌, ◌++◌, refl, sym, ap, subst, ◌∙◌, append_assoc, append-nil}
use Rattle.grammar_syntax.specs.declared.token.Token.{Token}
use Rattle.grammar_syntax.specs.declared.token.TokenKind.{TokenKind}
use Rattle.grammar_syntax.specs.declared.token.TokenKind.TheVariants as k
use Rattle.grammar_syntax.specs.declared.name_trees.PathTree.{PathTree}
use Rattle.grammar_syntax.specs.declared.name_trees.UidTree.{UidTree}
use Rattle.grammar_syntax.specs.Kinds.{Kinds, only, same_kind}
use Rattle.grammar_syntax.specs.Lang.{Lang}
use Rattle.grammar_syntax.specs.Lang as lang
use Rattle.grammar_syntax.specs.Grammar as g
use Rattle.grammar_syntax.specs.Grammar.{identifiers}
use Rattle.grammar_syntax.specs.ParseResults.{Begins, sees}
use Rattle.grammar_syntax.specs.ParserCombinators as reading
use Rattle.grammar_syntax.specs.Parsing as r
use Rattle.grammar_syntax.specs.Parsing.{pieces, is_text, ended_by, goes_on, piece, ends, beginning, last_of, uid_tree, finished}
use Rattle.grammar_syntax.proofs.Sets.{apart, within}
use Rattle.grammar_syntax.proofs.Rules.{Rule, Levels, both}
use Rattle.grammar_syntax.proofs.Forms.{same_self, Starts, Leads, of, nothing, refused, starts_of, starts_both, leads_empty, alive_empty, begin_of}
use Rattle.grammar_syntax.proofs.More.{Same, same}
use Rattle.grammar_syntax.proofs.Many.{looped, repeated, each, alive_many}
use Rattle.grammar_syntax.proofs.Steps.{none, seq, free, behind, go, go_one, starts_one}

-- what goes on with a name
abbrev pub after_name : Kinds
after_name = only k.Colons

-- ---- paths

abbrev pub path_word : Lang Token
path_word = lang.◌>>◌ (lang.one k.Colons) (lang.of identifiers)

pub word_rule : (D : Levels) → Rule path_word path_word r.path_word r.path_word none D
unfolding r.path_word
word_rule D = behind k.Colons none D (of identifiers none D) (begin_of identifiers k.Ident refl)

abbrev pub path_tail : Token → Lang PathTree
path_tail first = lang.◌>>=◌ (lang.many path_word) (λ more. lang.empty (record { first = first; more = more }))

alive_tail : (first : Token) → Begins (path_tail first) []
alive_tail first = go (alive_many path_word) (λ more. alive_empty (record { first = first; more = more }))

pub alive_path : Begins g.path []
alive_path = go (begin_of identifiers k.Ident refl) alive_tail

pub starts_path : Starts g.path identifiers
starts_path = starts_both (lang.of identifiers) path_tail identifiers (starts_of identifiers)

pub path_rule : (D : Levels) → Rule g.path g.path r.path r.path after_name D
unfolding r.path r.rest_of_path same_kind
path_rule D =
    seq (of identifiers none D)
    (λ first. seq (each path_word path_word _ _ (only k.Colons) none after_name D (word_rule D) (starts_one k.Colons (λ _. lang.of identifiers)) refl refl refl)
    (λ more. nothing (record { first = first; more = more }) after_name D) (λ more. leads_empty (record { first = first; more = more }) after_name after_name refl) (λ more. alive_empty (record { first = first; more = more })))
    (λ first. free (path_tail first) after_name)
    alive_tail

-- ---- uids from the common front

abbrev pub segment : Bool → Lang Token
segment false = lang.◌>>◌ (lang.one k.Colons) (lang.of pieces)
segment true = lang.never

abbrev pub segments : Lang (List Token)
segments = looped ended_by segment false

abbrev pub closed : Bool → Token → List Token → Lang UidTree
closed true first ts = lang.empty (uid_tree first ts)
closed false first ts = lang.never

abbrev pub behind_first : Token → Lang UidTree
behind_first first = lang.◌>>=◌ segments (λ ts. closed (ends false ts) first ts)

abbrev pub factored : Lang UidTree
factored = lang.◌>>=◌ (lang.of identifiers) behind_first

-- one more segment behind the others
pub snoc : (st : Bool) (front piece : List Token) (x : Token) (xs : List Token) → looped ended_by segment st front xs → ends st xs ≡ false → segment false piece x → looped ended_by segment st (front ++ piece) (xs ++ x ∷ [])
snoc true front piece x [] d e p = absurd (cc)
snoc false front piece x [] d e p = (piece, [], ap (λ z. z ++ piece) d ∙ sym (append-nil piece), p, refl)
snoc st front piece x (y ∷ ys) d e p = (d.0, d.1 ++ piece, ap (λ z. z ++ piece) d.2 ∙ append_assoc d.0 d.1 piece, d.3, snoc (ended_by st y) d.1 piece x ys d.4 e p)

pub ends-snoc : (st : Bool) (xs : List Token) (x : Token) → ends st (xs ++ x ∷ []) ≡ is_text x
ends-snoc st [] x = refl
ends-snoc st (y ∷ ys) x = ends-snoc (is_text y) ys x

-- Where no String came yet, one may come: so each front of a Uid begins one.
on_by : (b : Bool) (first : Token) (front ts : List Token) → ends false ts ≡ b → segments front ts → Begins (lang.◌>>=◌ segments (λ ts. closed (ends false ts) first ts)) front
on_by true first front ts e d =
    record {
      more = [];
      value = uid_tree first ts;
      derived = record {
        front = front;
        back = [];
        value = ts;
        whole = refl;
        first = d;
        second = subst (λ b. closed b first ts [] (uid_tree first ts)) (sym e) (refl, refl);
      };
    }
on_by false first front ts e d =
    let colons : Token = record { kind = k.Colons; start = 0; end = 0 } in
    let text : Token = record { kind = k.Text; start = 0; end = 0 } in
    let piece : lang.◌>>◌ (lang.one k.Colons) (lang.of pieces) (colons ∷ text ∷ []) text =
    record { front = colons ∷ []; back = text ∷ []; value = colons; whole = refl; first = (refl, same_self k.Colons); second = (refl, refl) } in
    let all = ts ++ text ∷ [] in
    record {
      more = colons ∷ text ∷ [];
      value = uid_tree first all;
      derived = record {
        front = front ++ colons ∷ text ∷ [];
        back = [];
        value = all;
        whole = sym (append-nil (front ++ colons ∷ text ∷ []));
        first = snoc false front (colons ∷ text ∷ []) text ts d e piece;
        second = subst (λ b. closed b first all [] (uid_tree first all)) (sym (ends-snoc false ts text ∙ same_self k.Text)) (refl, refl);
      };
    }

on : (first : Token) (front ts : List Token) → segments front ts → Begins (lang.◌>>=◌ segments (λ ts. closed (ends false ts) first ts)) front
on first front ts d = on_by (ends false ts) first front ts refl d

unseen : (ts : List Token) → sees (goes_on true) ts ≡ true → ⊥
unseen [] h = cc
unseen (t ∷ ts) h = cc

pub starts_segment : (st : Bool) → Starts (segment st) (goes_on st)
starts_segment false = starts_one k.Colons (λ _. lang.of pieces)
starts_segment true = λ ts a d. absurd d

pub goes_apart : (st : Bool) → apart (goes_on st) none ≡ true
unfolding same_kind
goes_apart false = refl
goes_apart true = refl

pub goes_within : (st : Bool) → within (goes_on st) (only k.Colons) ≡ true
unfolding same_kind
goes_within false = refl
goes_within true = refl

pub leads_closed : (b : Bool) (first : Token) (ts : List Token) → Leads (closed b first ts) (only k.Colons) after_name
unfolding same_kind
leads_closed true first ts = leads_empty (uid_tree first ts) (only k.Colons) after_name refl
leads_closed false first ts = λ front a rest d h. absurd d

module _ (D : Levels) where
  pub piece_at : (st : Bool) (ts : List Token) → sees (goes_on st) ts ≡ true → Rule (segment st) (segment st) piece piece none D
  unfolding piece
  piece_at false ts h = behind k.Colons none D (of pieces none D) (begin_of pieces k.Ident refl)
  piece_at true ts h = absurd (unseen ts h)

  pub segments_rule : Rule segments segments (reading.loop ended_by goes_on (λ st. piece) false) (reading.loop ended_by goes_on (λ st. piece) false) (only k.Colons) D
  unfolding same_kind
  segments_rule = repeated ended_by segment segment (λ st. piece) (λ st. piece) goes_on none (only k.Colons) D piece_at starts_segment goes_apart refl goes_within false

  pub closed_rule : (b : Bool) (first : Token) (ts : List Token) → Rule (closed b first ts) (closed b first ts) (finished b first ts) (finished b first ts) after_name D
  closed_rule true first ts = nothing (uid_tree first ts) after_name D
  closed_rule false first ts = refused after_name D

  pub behind_first_rule : (first : Token) → Rule (behind_first first) (behind_first first) (r.rest_of_uid first) (r.rest_of_uid first) after_name D
  unfolding r.rest_of_uid
  behind_first_rule first =
      both segments segments _ _ _ _ _ _ (only k.Colons) after_name D segments_rule (λ ts. closed_rule (ends false ts) first ts) (λ ts. leads_closed (ends false ts) first ts) (on first) (on first)

  factored_rule : Rule factored factored r.uid r.uid after_name D
  unfolding r.uid
  factored_rule =
      seq (of identifiers none D) behind_first_rule (λ first. free _ after_name)
      (λ first. on first [] [] refl)

-- ---- the factored form is the production

-- a piece that is no String is a word
word_of : (kind : TokenKind) → pieces kind ≡ true → same_kind kind k.Text ≡ false → identifiers kind ≡ true
unfolding same_kind
word_of k.Text h e = absurd (cc)
word_of _ h e = h

piece_of_word : (kind : TokenKind) → identifiers kind ≡ true → pieces kind ≡ true
piece_of_word k.Text h = refl
piece_of_word _ h = h

piece_of_text : (kind : TokenKind) → same_kind kind k.Text ≡ true → pieces kind ≡ true
unfolding same_kind
piece_of_text k.Text h = refl
piece_of_text _ h = absurd (cc)

pub no_text : (kind : TokenKind) → identifiers kind ≡ true → same_kind kind k.Text ≡ false
unfolding same_kind
no_text k.Text h = absurd (cc)
no_text _ h = refl

abbrev path_end : Lang Token
path_end = lang.◌>>◌ (lang.one k.Colons) (lang.one k.Text)

pub as_word : (ts : List Token) (t : Token) → segment false ts t → is_text t ≡ false → path_word ts t
as_word ts t j e = record { front = j.front; back = j.back; value = j.value; whole = j.whole; first = j.first; second = (j.second.0, word_of t.kind j.second.1 e) }

as_end : (ts : List Token) (t : Token) → segment false ts t → is_text t ≡ true → path_end ts t
as_end ts t j e = record { front = j.front; back = j.back; value = j.value; whole = j.whole; first = j.first; second = (j.second.0, e) }

pub word_as : (ts : List Token) (t : Token) → path_word ts t → segment false ts t
word_as ts t j = record { front = j.front; back = j.back; value = j.value; whole = j.whole; first = j.first; second = (j.second.0, piece_of_word t.kind j.second.1) }

end_as : (ts : List Token) (t : Token) → path_end ts t → segment false ts t
end_as ts t j = record { front = j.front; back = j.back; value = j.value; whole = j.whole; first = j.first; second = (j.second.0, piece_of_text t.kind j.second.1) }

pub not_ended : (b : Bool) (front : List Token) (u : Token) (us : List Token) → looped ended_by segment b front (u ∷ us) → b ≡ false
not_ended true front u us d = absurd d.3
not_ended false front u us d = refl

-- segments up to a String: words, and the String
record Cut (front : List Token) (first : Token) (ts : List Token) : Type 0 where
  words : List Token
  back : List Token
  whole : front ≡ words ++ back
  more : lang.many path_word words (beginning ts)
  id : path_end back (last_of first ts)

cut : (first : Token) (front ts : List Token) → looped ended_by segment false front ts → ends false ts ≡ true → Cut front first ts
cut first front [] d e = absurd (cc)
cut first front (t ∷ []) d e =
    record { words = []; back = d.0; whole = d.2 ∙ ap (λ z. d.0 ++ z) d.4 ∙ append-nil d.0; more = refl; id = as_end d.0 t d.3 e }
cut first front (t ∷ (u ∷ us)) d e =
    let h = not_ended (is_text t) d.1 u us d.4 in
    let c = cut t d.1 (u ∷ us) (subst (λ b. looped ended_by segment b d.1 (u ∷ us)) h d.4) e in
    record {
      words = d.0 ++ c.words;
      back = c.back;
      whole = d.2 ∙ ap (λ z. d.0 ++ z) c.whole ∙ sym (append_assoc d.0 c.words c.back);
      more = (d.0, c.words, refl, as_word d.0 t d.3 h, c.more);
      id = c.id;
    }

pub record Closed (b : Bool) (first : Token) (ts back : List Token) (u : UidTree) : Type 0 where
  pub ended : b ≡ true
  pub none_left : back ≡ []
  pub made : u ≡ uid_tree first ts

pub closed_is : (b : Bool) (first : Token) (ts back : List Token) (u : UidTree) → closed b first ts back u → Closed b first ts back u
closed_is true first ts back u d = record { ended = refl; none_left = d.0; made = d.1 }
closed_is false first ts back u d = absurd d

pub to_uid : (ts : List Token) (u : UidTree) → factored ts u → g.uid ts u
to_uid ts u w =
    let s = w.second in
    let e = closed_is (ends false s.value) w.value s.value s.back u s.second in
    let c = cut w.value s.front s.value s.first e.ended in
    record {
      front = w.front ++ c.words;
      back = c.back;
      value = record { first = w.value; more = beginning s.value };
      whole = w.whole ∙ ap (λ z. w.front ++ z) (s.whole ∙ ap (λ z. s.front ++ z) e.none_left ∙ append-nil s.front ∙ c.whole) ∙ sym (append_assoc w.front c.words c.back);
      first = record {
        front = w.front;
        back = c.words;
        value = w.value;
        whole = refl;
        first = w.first;
        second = record { front = c.words; back = []; value = beginning s.value; whole = sym (append-nil c.words); first = c.more; second = (refl, refl) };
      };
      second = record {
        front = c.id.front;
        back = c.id.back;
        value = c.id.value;
        whole = c.id.whole;
        first = c.id.first;
        second = record { front = c.id.back; back = []; value = last_of w.value s.value; whole = sym (append-nil c.id.back); first = c.id.second; second = (refl, e.made) };
      };
    }

in_pieces : (a b : List Token) (more : List Token) (id : Token) → lang.many path_word a more → path_end b id → segments (a ++ b) (more ++ id ∷ [])
in_pieces a b [] id d e = (b, [], ap (λ z. z ++ b) d ∙ sym (append-nil b), end_as b id e, refl)
in_pieces a b (x ∷ xs) id d e = (
  d.0,
  d.1 ++ b,
  ap (λ z. z ++ b) d.2 ∙ append_assoc d.0 d.1 b,
  word_as d.0 x d.3,
  subst (λ st. looped ended_by segment st (d.1 ++ b) (xs ++ id ∷ [])) (sym (no_text x.kind d.3.second.1)) (in_pieces d.1 b xs id d.4 e),
)

beginning-snoc : (xs : List Token) (x : Token) → beginning (xs ++ x ∷ []) ≡ xs
beginning-snoc [] x = refl
beginning-snoc (y ∷ []) x = refl
beginning-snoc (y ∷ (z ∷ zs)) x = ap (λ ts. y ∷ ts) (beginning-snoc (z ∷ zs) x)

last_of-snoc : (t : Token) (xs : List Token) (x : Token) → last_of t (xs ++ x ∷ []) ≡ x
last_of-snoc t [] x = refl
last_of-snoc t (y ∷ ys) x = last_of-snoc y ys x

uid_tree-snoc : (first : Token) (xs : List Token) (x : Token) → record { path = record { first = first; more = xs }; id = x } ≡ uid_tree first (xs ++ x ∷ [])
uid_tree-snoc first xs x =
    let named : List Token → Token → UidTree = λ more id. record { path = record { first = first; more = more }; id = id } in
    ap (λ z. named z x) (sym (beginning-snoc xs x)) ∙ ap (λ z. named (beginning (xs ++ x ∷ [])) z) (sym (last_of-snoc first xs x))

pub from_uid : (ts : List Token) (u : UidTree) → g.uid ts u → factored ts u
from_uid ts u j =
    let w = j.first in
    let s = w.second in
    let c = j.second in
    let d = c.second in
    let id = d.value in
    let tail = c.front ++ d.front in
    let all = s.value ++ id ∷ [] in
    let text : path_end tail id = record { front = c.front; back = d.front; value = c.value; whole = refl; first = c.first; second = d.first } in
    let ended : ends false all ≡ true = ends-snoc false s.value id ∙ d.first.1 in
    let named : PathTree → UidTree = λ p. record { path = p; id = id } in
    let made : u ≡ uid_tree w.value all = d.second.1 ∙ ap named s.second.1 ∙ uid_tree-snoc w.value s.value id in
    let words : j.front ≡ w.front ++ s.front = w.whole ∙ ap (λ z. w.front ++ z) (s.whole ∙ ap (λ z. s.front ++ z) s.second.0 ∙ append-nil s.front) in
    let rest : j.back ≡ tail = c.whole ∙ ap (λ z. c.front ++ z) (d.whole ∙ ap (λ z. d.front ++ z) d.second.0 ∙ append-nil d.front) in
    record {
      front = w.front;
      back = s.front ++ tail;
      value = w.value;
      whole = j.whole ∙ ap (λ z. z ++ j.back) words ∙ ap (λ z. (w.front ++ s.front) ++ z) rest ∙ append_assoc w.front s.front tail;
      first = w.first;
      second = record {
        front = s.front ++ tail;
        back = [];
        value = all;
        whole = sym (append-nil (s.front ++ tail));
        first = in_pieces s.front tail s.value id s.first text;
        second = subst (λ b. closed b w.value all [] u) (sym ended) (refl, made);
      };
    }

pub same_uid : Same factored g.uid
same_uid = record { to = to_uid; from = from_uid }

pub uid_rule : (D : Levels) → Rule g.uid g.uid r.uid r.uid after_name D
uid_rule D = same factored g.uid factored g.uid r.uid r.uid after_name D same_uid same_uid (factored_rule D)

abbrev uid_tail : PathTree → Lang UidTree
uid_tail p = lang.◌>>◌ (lang.one k.Colons) (lang.◌>>=◌ (lang.one k.Text) (λ id. lang.empty (record { path = p; id = id })))

pub starts_uid : Starts g.uid identifiers
starts_uid = starts_both g.path uid_tail identifiers starts_path

pub alive_uid : Begins g.uid []
alive_uid = go alive_path (λ p. go_one k.Colons (λ _. go_one k.Text (λ id. alive_empty (record { path = p; id = id }))))
