-- Variables, Uids and calls are read exactly, though they begin alike.
use Rattle.std.proofs.Common.{◌≡◌, inl, inr, Bool, true, false, List, [], ◌∷◌, ◌++◌, Option, Some, None, is_some, refl}
use Rattle.std.proofs.Common.{sym, ap, subst, ◌∙◌, append_assoc, append-nil}
use Rattle.grammar_syntax.specs.declared.token.Token.{Token}
use Rattle.grammar_syntax.specs.declared.token.TokenKind.TheVariants as k
use Rattle.grammar_syntax.specs.declared.name_trees.PathTree.{PathTree}
use Rattle.grammar_syntax.specs.declared.tree.ExprTree.{ExprTree}
use Rattle.grammar_syntax.specs.declared.tree.ExprTree.TheVariants as tree
use Rattle.grammar_syntax.specs.declared.tree.RequestKeyword.{RequestKeyword}
use Rattle.grammar_syntax.specs.Kinds.{only, same_kind}
use Rattle.grammar_syntax.specs.Lang.{Lang}
use Rattle.grammar_syntax.specs.Lang as lang
use Rattle.grammar_syntax.specs.Grammar.{identifiers, path, uid}
use Rattle.grammar_parsing.specs.Expressions as g
use Rattle.grammar_parsing.specs.Expressions.{known, variable_of}
use Rattle.grammar_syntax.specs.ParseResults.{Begins}
use Rattle.grammar_syntax.specs.Parsing.{pieces, is_text, ended_by, ends, uid_tree}
use Rattle.grammar_parsing.specs.inner.Reading.{path_of, variable_at}
use Rattle.grammar_syntax.proofs.Sets.{is_within}
use Rattle.grammar_syntax.proofs.Forms.{same_self, Leads, leads_empty}
use Rattle.grammar_syntax.proofs.Many.{looped}
use Rattle.grammar_syntax.proofs.More.{Same}
use Rattle.grammar_syntax.proofs.NameRules.{path_word, segment, segments, closed, snoc, ends-snoc}
use Rattle.grammar_syntax.proofs.NameRules.{word_as, as_word, no_text, not_ended, closed_is, to_uid}
use Rattle.grammar_syntax.proofs.NameRules.{from_uid}
use Rattle.grammar_parsing.proofs.Follows.{after_named}

-- ---- from the common front

abbrev pub rest_of_call : Bool → Lang ExprTree → PathTree → Lang ExprTree
rest_of_call o E name = lang.◌>>=◌ (g.called o E) (λ found. lang.empty (tree.Call name found))

abbrev pub variable_by : Option RequestKeyword → Lang ExprTree
variable_by (Some variable) = lang.empty (tree.Variable variable)
variable_by None = lang.never

abbrev pub behind_by : Bool → Bool → Lang ExprTree → Token → List Token → Lang ExprTree
behind_by true o E first ts = lang.empty (tree.Uid (uid_tree first ts))
behind_by false o E first ts = lang.◌or◌ (lang.gate o (rest_of_call o E (path_of first ts))) (variable_by (variable_at first ts))

abbrev pub behind_pieces : Bool → Lang ExprTree → Token → List Token → Lang ExprTree
behind_pieces o E first ts = behind_by (ends false ts) o E first ts

abbrev pub factored : Bool → Lang ExprTree → Lang ExprTree
factored o E = lang.◌>>=◌ (lang.of identifiers) (λ first. lang.◌>>=◌ segments (behind_pieces o E first))

-- Where no String came yet, one may come: so each front of a name begins one.
on_by : (b o : Bool) (E : Lang ExprTree) (first : Token) (front ts : List Token) → ends false ts ≡ b → segments front ts → Begins (lang.◌>>=◌ segments (behind_pieces o E first)) front
on_by true o E first front ts e d =
    record {
      more = [];
      value = tree.Uid (uid_tree first ts);
      derived = record {
        front = front;
        back = [];
        value = ts;
        whole = refl;
        first = d;
        second = subst (λ b. behind_by b o E first ts [] (tree.Uid (uid_tree first ts))) (sym e) (refl, refl);
      };
    }
on_by false o E first front ts e d =
    let colons : Token = record { kind = k.Colons; start = 0; end = 0 } in
    let text : Token = record { kind = k.Text; start = 0; end = 0 } in
    let piece : lang.◌>>◌ (lang.one k.Colons) (lang.of pieces) (colons ∷ text ∷ []) text =
    record { front = colons ∷ []; back = text ∷ []; value = colons; whole = refl; first = (refl, same_self k.Colons); second = (refl, refl) } in
    let all = ts ++ text ∷ [] in
    record {
      more = colons ∷ text ∷ [];
      value = tree.Uid (uid_tree first all);
      derived = record {
        front = front ++ colons ∷ text ∷ [];
        back = [];
        value = all;
        whole = sym (append-nil (front ++ colons ∷ text ∷ []));
        first = snoc false front (colons ∷ text ∷ []) text ts d e piece;
        second = subst (λ b. behind_by b o E first all [] (tree.Uid (uid_tree first all))) (sym (ends-snoc false ts text ∙ same_self k.Text)) (refl, refl);
      };
    }

pub on : (o : Bool) (E : Lang ExprTree) (first : Token) (front ts : List Token) → segments front ts → Begins (lang.◌>>=◌ segments (behind_pieces o E first)) front
on o E first front ts d = on_by (ends false ts) o E first front ts refl d

pub leads_variable : (found : Option RequestKeyword) → Leads (variable_by found) (only k.LParen) after_named
unfolding same_kind
leads_variable (Some variable) = leads_empty (tree.Variable variable) (only k.LParen) after_named refl
leads_variable None = λ front a rest d h. absurd d

pub leads_variable_colons : (found : Option RequestKeyword) → Leads (variable_by found) (only k.Colons) after_named
unfolding same_kind
leads_variable_colons (Some variable) = leads_empty (tree.Variable variable) (only k.Colons) after_named refl
leads_variable_colons None = λ front a rest d h. absurd d

-- ---- the factored form is the production

-- pieces without a String are words
words_of : (front ts : List Token) → looped ended_by segment false front ts → ends false ts ≡ false → lang.many path_word front ts
words_of front [] d e = d
words_of front (t ∷ []) d e = (d.0, d.1, d.2, as_word d.0 t d.3 e, d.4)
words_of front (t ∷ (u ∷ us)) d e =
    let word = not_ended (is_text t) d.1 u us d.4 in
    (d.0, d.1, d.2, as_word d.0 t d.3 word, words_of d.1 (u ∷ us) (subst (λ b. looped ended_by segment b d.1 (u ∷ us)) word d.4) (ap (λ b. ends b (u ∷ us)) (sym word) ∙ e))

pieces_of : (front ts : List Token) → lang.many path_word front ts → looped ended_by segment false front ts
pieces_of front [] d = d
pieces_of front (t ∷ ts) d =
    (d.0, d.1, d.2, word_as d.0 t d.3, subst (λ b. looped ended_by segment b d.1 ts) (sym (no_text t.kind d.3.second.1)) (pieces_of d.1 ts d.4))

no_end : (front ts : List Token) → lang.many path_word front ts → ends false ts ≡ false
no_end front [] d = refl
no_end front (t ∷ ts) d = ap (λ b. ends b ts) (no_text t.kind d.3.second.1) ∙ no_end d.1 ts d.4

-- all of the tokens, where nothing is left behind them
all_of : (ts front back : List Token) → ts ≡ front ++ back → back ≡ [] → ts ≡ front
all_of ts front back e none = e ∙ ap (λ z. front ++ z) none ∙ append-nil front

record Behind (ts : List Token) (first : Token) (pieces : List Token) (words back : List Token) : Type 0 where
  head : List Token
  whole : ts ≡ head ++ (words ++ back)
  one : lang.of identifiers head first

as_uid : (ts words back : List Token) (first : Token) (xs : List Token) (x : ExprTree) → Behind ts first xs words back → segments words xs → ends false xs ≡ true
    → lang.empty (tree.Uid (uid_tree first xs)) back x → lang.◌giving◌ uid tree.Uid ts x
as_uid ts words back first xs x b s e d = record {
  front = ts;
  back = [];
  value = uid_tree first xs;
  whole = sym (append-nil ts);
  first = to_uid ts (uid_tree first xs) (record {
    front = b.head;
    back = words ++ back;
    value = first;
    whole = b.whole;
    first = b.one;
    second = record { front = words; back = back; value = xs; whole = refl; first = s; second = subst (λ z. closed z first xs back (uid_tree first xs)) (sym e) (d.0, refl) };
  });
  second = (refl, d.1);
}

as_path : (head words : List Token) (first : Token) (xs : List Token) → lang.of identifiers head first → lang.many path_word words xs → path (head ++ words) (path_of first xs)
as_path head words first xs h d = record {
  front = head;
  back = words;
  value = first;
  whole = refl;
  first = h;
  second = record { front = words; back = []; value = xs; whole = sym (append-nil words); first = d; second = (refl, refl) };
}

as_call : (o : Bool) (E : Lang ExprTree) (ts words back : List Token) (first : Token) (xs : List Token) (x : ExprTree) → Behind ts first xs words back → segments words xs → ends false xs ≡ false
    → lang.gate o (rest_of_call o E (path_of first xs)) back x → lang.gate o (g.call o E) ts x
as_call true E ts words back first xs x b s e d = record {
  front = b.head ++ words;
  back = back;
  value = path_of first xs;
  whole = b.whole ∙ sym (append_assoc b.head words back);
  first = as_path b.head words first xs b.one (words_of words xs s e);
  second = d;
}
as_call false E ts words back first xs x b s e d = absurd d

as_variable : (ts words back : List Token) (first : Token) (xs : List Token) (x : ExprTree) → Behind ts first xs words back → segments words xs
    → variable_by (variable_at first xs) back x → lang.◌giving◌ (g.symbol variable_of) tree.Variable ts x
as_variable ts words back first [] x b s d = stands (variable_of first.kind) refl d where
  alone : back ≡ [] → ts ≡ first ∷ []
  alone none = b.whole ∙ ap (λ z. b.head ++ (z ++ back)) s ∙ ap (λ z. b.head ++ z) none ∙ append-nil b.head ∙ b.one.0

  stands : (found : Option RequestKeyword) → variable_of first.kind ≡ found → variable_by found back x → lang.◌giving◌ (g.symbol variable_of) tree.Variable ts x
  stands (Some variable) e v = record { front = ts; back = []; value = variable; whole = sym (append-nil ts); first = (first, alone v.0, e); second = (refl, v.1) }
  stands None e v = absurd v
as_variable ts words back first (t ∷ more) x b s d = absurd d

named_of : (b o : Bool) (E : Lang ExprTree) (ts words back : List Token) (first : Token) (xs : List Token) (x : ExprTree) → ends false xs ≡ b → Behind ts first xs words back → segments words xs
    → behind_by b o E first xs back x → g.named o E ts x
named_of true o E ts words back first xs x e b s d = inr (inl (as_uid ts words back first xs x b s e d))
named_of false o E ts words back first xs x e b s (inl d) = inr (inr (as_call o E ts words back first xs x b s e d))
named_of false o E ts words back first xs x e b s (inr d) = inl (as_variable ts words back first xs x b s d)

to_named : (o : Bool) (E : Lang ExprTree) (ts : List Token) (x : ExprTree) → factored o E ts x → g.named o E ts x
to_named o E ts x w =
    let s = w.second in
    named_of (ends false s.value) o E ts s.front s.back w.value s.value x refl (record { head = w.front; whole = w.whole ∙ ap (λ z. w.front ++ z) s.whole; one = w.first }) s.first s.second

from_variable : (o : Bool) (E : Lang ExprTree) (ts : List Token) (x : ExprTree) → lang.◌giving◌ (g.symbol variable_of) tree.Variable ts x → factored o E ts x
from_variable o E ts x j =
    let d = j.first in
    record {
      front = j.front;
      back = j.back;
      value = d.0;
      whole = j.whole;
      first = (d.1, is_within (known variable_of) identifiers refl d.0.kind (ap is_some d.2));
      second = record { front = []; back = j.back; value = []; whole = refl; first = refl; second = inr (subst (λ found. variable_by found j.back x) (sym d.2) j.second) };
    }

from_named_uid : (o : Bool) (E : Lang ExprTree) (ts : List Token) (x : ExprTree) → lang.◌giving◌ uid tree.Uid ts x → factored o E ts x
from_named_uid o E ts x j =
    let w = from_uid j.front j.value j.first in
    let s = w.second in
    let e = closed_is (ends false s.value) w.value s.value s.back j.value s.second in
    record {
      front = w.front;
      back = w.back;
      value = w.value;
      whole = all_of ts j.front j.back j.whole j.second.0 ∙ w.whole;
      first = w.first;
      second = record {
        front = s.front;
        back = s.back;
        value = s.value;
        whole = s.whole;
        first = s.first;
        second = subst (λ b. behind_by b o E w.value s.value s.back x) (sym e.ended) (e.none_left, j.second.1 ∙ ap tree.Uid e.made);
      };
    }

from_call : (o : Bool) (E : Lang ExprTree) (ts : List Token) (x : ExprTree) → lang.gate o (g.call o E) ts x → factored o E ts x
from_call true E ts x j =
    let w = j.first in
    let s = w.second in
    let words : w.back ≡ s.front = all_of w.back s.front s.back s.whole s.second.0 in
    record {
      front = w.front;
      back = s.front ++ j.back;
      value = w.value;
      whole = j.whole ∙ ap (λ z. z ++ j.back) (w.whole ∙ ap (λ z. w.front ++ z) words) ∙ append_assoc w.front s.front j.back;
      first = w.first;
      second = record {
        front = s.front;
        back = j.back;
        value = s.value;
        whole = refl;
        first = pieces_of s.front s.value s.first;
        second = subst (λ b. behind_by b true E w.value s.value j.back x) (sym (no_end s.front s.value s.first)) (inl (subst (λ name. rest_of_call true E name j.back x) s.second.1 j.second));
      };
    }
from_call false E ts x j = absurd j

from_named : (o : Bool) (E : Lang ExprTree) (ts : List Token) (x : ExprTree) → g.named o E ts x → factored o E ts x
from_named o E ts x (inl d) = from_variable o E ts x d
from_named o E ts x (inr (inl d)) = from_named_uid o E ts x d
from_named o E ts x (inr (inr d)) = from_call o E ts x d

pub same_named : (o : Bool) (E : Lang ExprTree) → Same (factored o E) (g.named o E)
same_named o E = record { to = to_named o E; from = from_named o E }
