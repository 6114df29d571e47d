-- A code is found if and only if the rows have it; what is found has what all rows have.
use Rattle.std.proofs.Common.{◌≡◌, ◌∙◌, ◌==◌, ◌||◌, ℕ, nat_lt, Bool, true, false, if◌then◌else◌, List, [], ◌∷◌, map, Option, None, Some, is_some, option_map, Bor, cond, refl, ap, sym, subst}
use Rattle.std.specs.Prelude.{◌&&◌, IfSome}
use Rattle.std.specs.List.{find, list_any, list_all}
use Rattle.explanations.specs.declared.table.CodeWords.{CodeWords}
use Rattle.explanations.specs.Codes.{codes_of_group}
use Rattle.explanations.specs.CodeText.{Texts, texts_of, rows_of_group, words_on}
use Rattle.explanations.specs.Printable.{is_clean}
use Rattle.explanations.specs.ExplanationText.{AreWordsOf}

abbrev Words : Type 0
Words = CodeWords (Bor (List ℕ))

abbrev has_code : ℕ → Texts → Bool
has_code code row = row.code == code

abbrev texts_at : Option (Bor Words) → Option Texts
texts_at o = option_map (λ w. texts_of w.now) o

-- ---- the texts of what is found

texts_behind : (o : Option (Bor Words)) → texts_at o ≡ option_map texts_of (option_map (λ w. w.now) o)
texts_behind None = refl
texts_behind (Some w) = refl

this_or_those : (b : Bool) (w : Words) (other : Option Words) → option_map texts_of (cond b (Some w) other) ≡ cond b (Some (texts_of w)) (option_map texts_of other)
this_or_those true w other = refl
this_or_those false w other = refl

found_map : (code : ℕ) (rows : List Words) → option_map texts_of (find (λ w. w.code == code) rows) ≡ find (has_code code) (map texts_of rows)
found_map code [] = refl
found_map code (w ∷ rest) =
    this_or_those (w.code == code) w (find (λ v. v.code == code) rest)
    ∙ ap (λ (o : Option Texts). cond (w.code == code) (Some (texts_of w)) o) (found_map code rest)

pub found_texts : (code : ℕ) (rows : List Words) (table : List Texts) (o : Option (Bor Words)) → option_map (λ w. w.now) o ≡ find (λ w. w.code == code) rows
    → map texts_of rows ≡ table → texts_at o ≡ find (has_code code) table
found_texts code rows table o found same =
    texts_behind o ∙ ap (λ (p : Option Words). option_map texts_of p) found ∙ found_map code rows ∙ ap (λ (l : List Texts). find (has_code code) l) same

-- ---- the table

abbrev codes_in : List Texts → List ℕ
codes_in rows = map (λ t. t.code) rows

codes_if : (b : Bool) (x y : List Texts) (k l : List ℕ) → codes_in x ≡ k → codes_in y ≡ l → codes_in (if b then x else y) ≡ (if b then k else l)
codes_if true x y k l p q = p
codes_if false x y k l p q = q

-- the codes of the rows
pub rows_codes : (c : ℕ) → codes_in (rows_of_group c) ≡ codes_of_group c
unfolding rows_of_group
rows_codes c =
    codes_if (nat_lt c 10) _ _ _ _ refl (codes_if (nat_lt c 20) _ _ _ _ refl (codes_if (nat_lt c 30) _ _ _ _ refl (codes_if (nat_lt c 40) _ _ _ _ refl (
    codes_if (nat_lt c 50) _ _ _ _ refl (codes_if (nat_lt c 60) _ _ _ _ refl (codes_if (nat_lt c 100) _ _ _ _ refl refl))))))

clean_if : (b : Bool) (x y : List Texts) → list_all is_clean x ≡ true → list_all is_clean y ≡ true → list_all is_clean (if b then x else y) ≡ true
clean_if true x y p q = p
clean_if false x y p q = q

-- all texts are printable
pub rows_clean : (c : ℕ) → list_all is_clean (rows_of_group c) ≡ true
unfolding rows_of_group
rows_clean c =
    clean_if (nat_lt c 10) _ _ refl (clean_if (nat_lt c 20) _ _ refl (clean_if (nat_lt c 30) _ _ refl (clean_if (nat_lt c 40) _ _ refl (
    clean_if (nat_lt c 50) _ _ refl (clean_if (nat_lt c 60) _ _ refl (clean_if (nat_lt c 100) _ _ refl refl))))))

-- ---- a code is known

this_or_another : (b : Bool) (t : Texts) (other : Option Texts) → is_some (cond b (Some t) other) ≡ (b || is_some other)
this_or_another true t other = refl
this_or_another false t other = refl

known_if_found : (code : ℕ) (rows : List Texts) → is_some (find (has_code code) rows) ≡ list_any (λ c. c == code) (map (λ t. t.code) rows)
known_if_found code [] = refl
known_if_found code (t ∷ rest) =
    this_or_another (t.code == code) t (find (has_code code) rest) ∙ ap (λ b. (t.code == code) || b) (known_if_found code rest)

some_behind : (o : Option (Bor Words)) → is_some o ≡ is_some (texts_at o)
some_behind None = refl
some_behind (Some w) = refl

pub is_known : (code : ℕ) (table : List Texts) (o : Option (Bor Words)) (ks : List ℕ) → texts_at o ≡ find (has_code code) table → map (λ t. t.code) table ≡ ks
    → is_some o ≡ list_any (λ c. c == code) ks
is_known code table o ks found same =
    some_behind o ∙ ap (λ (p : Option Texts). is_some p) found ∙ known_if_found code table ∙ ap (list_any (λ c. c == code)) same

-- ---- what all rows have

left_true : (a b : Bool) → (a && b) ≡ true → a ≡ true
left_true true b h = refl
left_true false b h = h

right_true : (a b : Bool) → (a && b) ≡ true → b ≡ true
right_true true b h = h
right_true false b h = absurd (apart h)
  where
    apart : false ≡ true → ⊥
    apart e = cc

abbrev Has : Option Texts → Type 0
Has o = IfSome o (λ t. is_clean t ≡ true)

has_either : (b : Bool) (t : Texts) (other : Option Texts) → is_clean t ≡ true → Has other → Has (cond b (Some t) other)
has_either true t other this rest = this
has_either false t other this rest = rest

has_found : (code : ℕ) (rows : List Texts) → list_all is_clean rows ≡ true → Has (find (has_code code) rows)
has_found code [] h = tt
has_found code (t ∷ rest) h =
    has_either (t.code == code) t (find (has_code code) rest) (left_true (is_clean t) (list_all is_clean rest) h)
    (has_found code rest (right_true (is_clean t) (list_all is_clean rest) h))

has_behind : (o : Option (Bor Words)) → Has (texts_at o) → IfSome o (λ w. is_clean (texts_of w.now) ≡ true)
has_behind None h = tt
has_behind (Some w) h = h

pub found_clean : (code : ℕ) (table : List Texts) (o : Option (Bor Words)) → texts_at o ≡ find (has_code code) table → list_all is_clean table ≡ true
    → IfSome o (λ w. is_clean (texts_of w.now) ≡ true)
found_clean code table o found clean = has_behind o (subst Has (sym found) (has_found code table clean))

-- the texts on a code are printable
pub words_clean : (code : ℕ) (o : Option Texts) → words_on code ≡ o → IfSome o (λ t. is_clean t ≡ true)
words_clean code o e = subst Has e (has_found code (rows_of_group code) (rows_clean code))

-- ---- what is said on a code

pub words_so : (code : ℕ) (o : Option Texts) (says advice : List ℕ) → o ≡ words_on code → AreWordsOf o says advice
    → AreWordsOf (words_on code) says advice
words_so code o says advice e h = subst (λ (p : Option Texts). AreWordsOf p says advice) e h
