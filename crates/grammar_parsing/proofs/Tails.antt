-- A relation is what stands behind its first Sum, joined to it.
use Rattle.std.proofs.Common.{◌≡◌, Bool, true, false, List, Some, None, refl}
use Rattle.grammar_syntax.specs.declared.token.Token.{Token}
use Rattle.grammar_syntax.specs.declared.token.TokenKind.TheVariants as k
use Rattle.grammar_syntax.specs.declared.tree.ExprTree.{ExprTree}
use Rattle.grammar_syntax.specs.Kinds.{only}
use Rattle.grammar_syntax.specs.ParseResults.{sees}
use Rattle.grammar_syntax.specs.ParserCombinators.{Parser, ParseResult, Read, Stop, and_then, take, token, pure}
use Rattle.grammar_syntax.specs.ParserCombinators.{chosen}
use Rattle.grammar_syntax.specs.Parsing.{path}
use Rattle.grammar_parsing.specs.Expressions.{comparison_of, comparisons, patterns}
use Rattle.grammar_parsing.specs.inner.Reading as r
use Rattle.grammar_parsing.specs.inner.Tails as t
use Rattle.grammar_parsing.specs.inner.Tails.{relate}
use Rattle.grammar_parsing.specs.declared.relations.Tail.TheVariants.{Compared, Has, Like, Is}

one_step : {A B C : Type 0} (o : ParseResult A) (f : A → B) (h : B → C) → and_then o (λ a. pure (h (f a))) ≡ and_then (and_then o (λ a. pure (f a))) (λ b. pure (h b))
one_step (Read a rest) f h = refl
one_step (Stop w rest) f h = refl

two_steps : {A B C D : Type 0} (o : ParseResult A) (p : A → Parser B) (f : A → B → C) (h : C → D)
    → and_then o (λ a ts. and_then (p a ts) (λ b. pure (h (f a b)))) ≡ and_then (and_then o (λ a ts. and_then (p a ts) (λ b. pure (f a b)))) (λ c. pure (h c))
two_steps (Read a rest) p f h = one_step (p a rest) (f a) h
two_steps (Stop w rest) p f h = refl

three_steps : {A B C D E : Type 0} (o : ParseResult A) (p : A → Parser B) (q : B → Parser C) (f : B → C → D) (h : D → E)
    → and_then o (λ a ts. and_then (p a ts) (λ b us. and_then (q b us) (λ c. pure (h (f b c)))))
    ≡ and_then (and_then o (λ a ts. and_then (p a ts) (λ b us. and_then (q b us) (λ c. pure (f b c))))) (λ d. pure (h d))
three_steps (Read a rest) p q f h = two_steps (p a rest) q f h
three_steps (Stop w rest) p q f h = refl

chosen_then : {A B : Type 0} (b : Bool) (p q : Parser A) (p' q' : Parser B) (h : A → B) (ts : List Token)
    → p' ts ≡ and_then (p ts) (λ a. pure (h a)) → q' ts ≡ and_then (q ts) (λ a. pure (h a)) → chosen b p' q' ts ≡ and_then (chosen b p q ts) (λ a. pure (h a))
chosen_then true p q p' q' h ts e f = e
chosen_then false p q p' q' h ts e f = f

module _ (may : Bool) (inner : Parser ExprTree) (x : ExprTree) (ts : List Token) where
  compared : r.compared may inner x ts ≡ and_then (t.compared may inner ts) (λ found. pure (relate x found))
  unfolding r.compared t.compared
  compared = two_steps (r.symbol comparison_of ts) (λ operator. r.sum may inner) (λ operator y. Some (Compared operator y)) (relate x)

  has : r.has may inner x ts ≡ and_then (t.has ts) (λ found. pure (relate x found))
  unfolding r.has t.has
  has = two_steps (token k.Has ts) (λ word. r.key) (λ word name. Some (Has name)) (relate x)

  like : r.like may inner x ts ≡ and_then (t.like ts) (λ found. pure (relate x found))
  unfolding r.like t.like
  like = two_steps (token k.Like ts) (λ word. take patterns) (λ word text. Some (Like text)) (relate x)

  type_test : r.type_test may inner x ts ≡ and_then (t.type_test may inner ts) (λ found. pure (relate x found))
  unfolding r.type_test t.type_test
  type_test = three_steps (token k.Is ts) (λ word. path) (λ type_name. r.maybe_inside may inner) (λ type_name y. Some (Is type_name y)) (relate x)

  tested : r.test_tail may inner x ts ≡ and_then (t.test_tail may inner ts) (λ found. pure (relate x found))
  unfolding r.test_tail t.test_tail
  tested =
      chosen_then (sees (only k.Has) ts) _ _ _ _ (relate x) ts has
      (chosen_then (sees (only k.Like) ts) _ _ _ _ (relate x) ts like
      (chosen_then (sees (only k.Is) ts) (t.type_test may inner) (pure None) (r.type_test may inner x) (pure x) (relate x) ts type_test refl))

  pub related_joins : r.related may inner x ts ≡ t.joined may inner x ts
  unfolding r.related t.tail t.joined
  related_joins = chosen_then (sees comparisons ts) (t.compared may inner) (t.test_tail may inner) (r.compared may inner x) (r.test_tail may inner x) (relate x) ts compared tested
