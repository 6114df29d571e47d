-- The words of a path are identifiers.
use Rattle.std.proofs.Common.{◌≡◌, ℕ, ◌+◌, ◌<◌, true, false, List, [], ◌∷◌, ◌++◌, length, take, get_or, map, refl, sym}
use Rattle.std.proofs.Common.{◌∙◌, ap, subst}
use Rattle.std.proofs.lemmas.List.{take_more, map-append}
use denote.Ref.{Bor}
use Rattle.plain.specs.Words.{AreIdents, IsIdent}
use Rattle.grammar_syntax.specs.declared.token.TokenKind.{TokenKind}
use Rattle.grammar_syntax.specs.declared.token.TokenKind.TheVariants as k
use Rattle.grammar_syntax.specs.declared.token.Token.{Token}
use Rattle.grammar_syntax.specs.Idents.{is_ident}
use Rattle.grammar_syntax.specs.Lexing.{spelling_of}
use Rattle.grammar_syntax.specs.Grammar.{identifiers}
use Rattle.grammar_syntax.specs.Kinds.{only, same_kind}
use Rattle.grammar_desugaring.proofs.Lists.{idents-more}

refuted : {A : Type 0} → false ≡ true → A
refuted e = absurd (cc)

pub ident-kind : (kind : TokenKind) → identifiers kind ≡ true → is_ident kind ≡ true
ident-kind k.Ident yes' = refl
ident-kind k.Permit yes' = refl
ident-kind k.Forbid yes' = refl
ident-kind k.When yes' = refl
ident-kind k.Unless yes' = refl
ident-kind k.Principal yes' = refl
ident-kind k.Action yes' = refl
ident-kind k.Resource yes' = refl
ident-kind k.Context yes' = refl
ident-kind _ yes' = refuted yes'

pub text-kind : (kind : TokenKind) → only k.Text kind ≡ true → kind ≡ k.Text
unfolding same_kind
text-kind k.Text yes' = refl
text-kind _ yes' = refuted yes'

-- what texts point to
abbrev pub shown : List (Bor (List ℕ)) → List (List ℕ)
shown = map (λ w. w.now)

pub words-first : (old new : List (Bor (List ℕ))) (w : Bor (List ℕ)) (word : List ℕ) → old ≡ [] → new ≡ old ++ w ∷ [] → w.now ≡ word → IsIdent w.now →
    (shown new ≡ word ∷ []) × AreIdents (shown new)
words-first old new w word none pushed is ident =
    let same : shown new ≡ w.now ∷ [] = ap shown (pushed ∙ ap (λ xs. xs ++ w ∷ []) none) in
    (same ∙ ap (λ x. x ∷ []) is, subst AreIdents (sym same) (ident, tt))

pub words-more : (text : List ℕ) (tokens : List Token) (i : ℕ) (d : Token) (old new : List (Bor (List ℕ))) (w : Bor (List ℕ)) (first : List ℕ) →
    i < length tokens → (shown old ≡ first ∷ map (spelling_of text) (take i tokens)) × AreIdents (shown old) → new ≡ old ++ w ∷ [] →
    w.now ≡ spelling_of text (get_or tokens i d) → IsIdent w.now →
    (shown new ≡ first ∷ map (spelling_of text) (take (i + 1) tokens)) × AreIdents (shown new)
words-more text tokens i d old new w first below was pushed is ident =
    let grown : shown new ≡ shown old ++ w.now ∷ [] = ap shown pushed ∙ map-append (λ x. x.now) old (w ∷ []) in
    let more : map (spelling_of text) (take (i + 1) tokens) ≡ map (spelling_of text) (take i tokens) ++ spelling_of text (get_or tokens i d) ∷ [] =
    ap (map (spelling_of text)) (take_more tokens i d below) ∙ map-append (spelling_of text) (take i tokens) _ in (
      grown ∙ ap (λ xs. xs ++ w.now ∷ []) was.0 ∙ ap (λ x. first ∷ (map (spelling_of text) (take i tokens) ++ x ∷ [])) is ∙ ap (λ xs. first ∷ xs) (sym more),
      subst AreIdents (sym grown) (idents-more (shown old) w.now was.1 ident),
    )
