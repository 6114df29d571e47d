-- The lines of policies, one more at each step.
use Rattle.std.proofs.Common.{◌≡◌, ◌∙◌, ℕ, zero, suc, ◌+◌, ◌<◌, ◌==◌, ◌||◌, Bool, true, false, List, [], ◌∷◌, ◌++◌, map}
use Rattle.std.proofs.Common.{take, length, get_or, refl, sym, ap, subst, arith, eqb-true}
use Rattle.std.proofs.Common.{String, Global, string_bytes}
use Rattle.std.specs.List.{AllZip, list_any, join_with_byte}
use Rattle.std.proofs.lemmas.List.{take_more, append_assoc}
use Rattle.decision_texts.specs.policy_grammar.declared.policy.Policy.{Policy}
use Rattle.entity_hierarchy.specs.schema.Schemas.{StatedSchema, IsSchemaOf}
use Rattle.decision_texts.specs.authoriser.Answers.{NamedPolicy}
use Rattle.decision_texts.specs.Decisions.{named_policies, ArePoliciesOf}
use Rattle.validator.specs.Outcomes.{CheckResult, IsCheckResult}
use Rattle.schema_decisions.specs.Lines.{verdict_line, is_refusal}
use Rattle.schema_decisions.specs.Checks.{line_end, PolicyReport, IsReportOf, AreReportsOf, AreReportsOnFile, IsChecked}
use Rattle.schema_decisions.specs.inner.Named.{own_name, named_in, set_apart}

pub named_policies-map : (ps : List (String Global × Policy)) → named_policies (map (λ p. string_bytes p.0) ps) (map (λ p. p.1) ps) ≡ named_in ps
named_policies-map [] = refl
named_policies-map (p ∷ ps) = ap (λ (l : List NamedPolicy). own_name p ∷ l) (named_policies-map ps)

all_zip-more : {A B : Type 0} (R : A → B → Type 0) (xs : List A) (ys : List B) (x : A) (y : B) → AllZip R xs ys → R x y → AllZip R (xs ++ x ∷ []) (ys ++ y ∷ [])
all_zip-more R [] [] x y all r = (r, tt)
all_zip-more R [] (b ∷ ys) x y all r = absurd all
all_zip-more R (a ∷ xs) [] x y all r = absurd all
all_zip-more R (a ∷ xs) (b ∷ ys) x y all r = (all.0, all_zip-more R xs ys x y all.1 r)

-- one more line, after those so far
join-more : (l : List ℕ) (ls : List (List ℕ)) (x : List ℕ) → join_with_byte line_end ((l ∷ ls) ++ x ∷ []) ≡ join_with_byte line_end (l ∷ ls) ++ (line_end ∷ x)
join-more l [] x = refl
join-more l (m ∷ ls) x = ap (λ v. l ++ (line_end ∷ v)) (join-more m ls x) ∙ sym (append_assoc l (line_end ∷ join_with_byte line_end (m ∷ ls)) (line_end ∷ x))

abbrev is_none : {A : Type 0} → List A → Bool
is_none [] = true
is_none (x ∷ xs) = false

joined : (ls : List (List ℕ)) (x : List ℕ) → join_with_byte line_end (ls ++ x ∷ []) ≡ join_with_byte line_end ls ++ set_apart (is_none ls) x
joined [] x = refl
joined (l ∷ ls) x = join-more l ls x

list_any-more : {A : Type 0} (p : A → Bool) (xs : List A) (x : A) → list_any p (xs ++ x ∷ []) ≡ (list_any p xs || p x)
list_any-more p [] x = or_false (p x)
  where
    or_false : (b : Bool) → (b || false) ≡ b
    or_false true = refl
    or_false false = refl
list_any-more p (y ∷ ys) x = rw (list_any-more p ys x) (or_assoc (p y) (list_any p ys) (p x))
  where
    or_assoc : (a b d : Bool) → (a || (b || d)) ≡ ((a || b) || d)
    or_assoc true b d = refl
    or_assoc false b d = refl

map-more : {A B : Type 0} (f : A → B) (xs : List A) (x : A) → map f (xs ++ x ∷ []) ≡ map f xs ++ f x ∷ []
map-more f [] x = refl
map-more f (y ∷ ys) x = ap (λ l. f y ∷ l) (map-more f ys x)

abbrev line_of : PolicyReport → List ℕ
line_of t = verdict_line t.id t.outcome

abbrev refuses : PolicyReport → Bool
refuses t = is_refusal t.outcome

map-none : (ts : List PolicyReport) → is_none (map line_of ts) ≡ is_none ts
map-none [] = refl
map-none (t ∷ ts) = refl

none_as : (ps : List NamedPolicy) (ts : List PolicyReport) (s : StatedSchema) → AllZip (IsReportOf s) ps ts → is_none ts ≡ is_none ps
none_as [] [] s all = refl
none_as [] (t ∷ ts) s all = absurd all
none_as (p ∷ ps) [] s all = absurd all
none_as (p ∷ ps) (t ∷ ts) s all = refl

-- no policies have no lines
pub none_told : (s : StatedSchema) → AreReportsOf s [] [] false
none_told s = record { report = []; each = tt; text_is = refl; some_refused_is = refl }

-- one policy more
report-more : (s : StatedSchema) (ps : List NamedPolicy) (p : NamedPolicy) (text : List ℕ) (refused : Bool) (o : CheckResult) → AreReportsOf s ps text refused → IsCheckResult s p.policy o
    → AreReportsOf s (ps ++ p ∷ []) (text ++ set_apart (is_none ps) (verdict_line p.id o)) (refused || is_refusal o)
report-more s ps p text refused o was comes =
    let t : PolicyReport = record { id = p.id; outcome = o } in
    let none : is_none (map line_of was.report) ≡ is_none ps = map-none was.report ∙ none_as ps was.report s was.each in
    record {
      report = was.report ++ t ∷ [];
      each = all_zip-more (IsReportOf s) ps was.report p t was.each (refl, comes);
      text_is =
          ap (λ (l : List ℕ). l ++ set_apart (is_none ps) (line_of t)) was.text_is
          ∙ ap (λ (b : Bool). join_with_byte line_end (map line_of was.report) ++ set_apart b (line_of t)) (sym none)
          ∙ sym (joined (map line_of was.report) (line_of t)) ∙ ap (join_with_byte line_end) (sym (map-more line_of was.report t));
      some_refused_is = ap (λ (b : Bool). b || is_refusal o) was.some_refused_is ∙ sym (list_any-more refuses was.report t);
    }

not_first : (i : ℕ) (b : Bool) → (suc i == 0) ≡ b → b ≡ false
not_first i false e = refl
not_first i true e = let h : suc i ≡ 0 = eqb-true (suc i) 0 e in absurd (omega (arith, h))

none_at : {A : Type 0} (xs : List A) (i : ℕ) → i < length xs → is_none (take i xs) ≡ (i == 0)
none_at [] i below = absurd (omega arith)
none_at (x ∷ xs) zero below = refl
none_at (x ∷ xs) (suc i) below = sym (not_first i (suc i == 0) refl)

named_take : (ps : List (String Global × Policy)) (i : ℕ) → named_in (take i ps) ≡ take i (named_in ps)
named_take [] zero = refl
named_take [] (suc i) = refl
named_take (p ∷ ps) zero = refl
named_take (p ∷ ps) (suc i) = ap (λ l. own_name p ∷ l) (named_take ps i)

none_in : (ps : List (String Global × Policy)) → is_none (named_in ps) ≡ is_none ps
none_in [] = refl
none_in (p ∷ ps) = refl

-- the loop's step
pub report-step : (s : StatedSchema) (ps : List (String Global × Policy)) (i : ℕ) (p : String Global × Policy) (text new : List ℕ) (refused flag : Bool) (o : CheckResult)
    → AreReportsOf s (named_in (take i ps)) text refused → i < length ps → p ≡ get_or ps i p → IsCheckResult s p.1 o
    → new ≡ text ++ set_apart (i == 0) (verdict_line (string_bytes p.0) o) → flag ≡ (refused || is_refusal o)
    → AreReportsOf s (named_in (take (i + 1) ps)) new flag
report-step s ps i p text new refused flag o was below here comes is flag_is =
    let first : is_none (named_in (take i ps)) ≡ (i == 0) = none_in (take i ps) ∙ none_at ps i below in
    let more : named_in (take (i + 1) ps) ≡ named_in (take i ps) ++ own_name p ∷ [] =
    ap named_in (take_more ps i p below) ∙ map-more own_name (take i ps) (get_or ps i p)
    ∙ ap (λ (q : String Global × Policy). named_in (take i ps) ++ own_name q ∷ []) (sym here) in
    let text_is : new ≡ text ++ set_apart (is_none (named_in (take i ps))) (verdict_line (string_bytes p.0) o) =
    is ∙ ap (λ (b : Bool). text ++ set_apart b (verdict_line (string_bytes p.0) o)) (sym first) in
    subst (λ (b : Bool). AreReportsOf s (named_in (take (i + 1) ps)) new b) (sym flag_is)
    (subst (λ (l : List ℕ). AreReportsOf s (named_in (take (i + 1) ps)) l (refused || is_refusal o)) (sym text_is)
    (subst (λ (l : List NamedPolicy). AreReportsOf s l (text ++ set_apart (is_none (named_in (take i ps))) (verdict_line (string_bytes p.0) o)) (refused || is_refusal o)) (sym more)
    (report-more s (named_in (take i ps)) (own_name p) text refused o was comes)))

-- the lines of a file's policies
pub has_file_reports : (s : StatedSchema) (policies : List ℕ) (ps held : List (String Global × Policy)) (text : List ℕ) (refused : Bool)
    → ArePoliciesOf policies (map (λ p. string_bytes p.0) ps) (map (λ p. p.1) ps) → held ≡ ps → AreReportsOf s (named_in held) text refused
    → AreReportsOnFile s policies text refused
has_file_reports s policies ps held text refused file same report = record {
  names = map (λ p. string_bytes p.0) ps;
  cores = map (λ p. p.1) ps;
  file = file;
  has_reports = subst (λ (l : List NamedPolicy). AreReportsOf s l text refused) (ap named_in same ∙ sym (named_policies-map ps)) report;
}

-- the lines for both texts
pub are_checked : (schema policies text : List ℕ) (refused : Bool) (s : StatedSchema) → IsSchemaOf schema s → AreReportsOnFile s policies text refused
    → IsChecked schema policies text refused
are_checked schema policies text refused s is report = record { stated = s; schema_is = is; has_file_reports = report }
