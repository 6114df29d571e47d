-- From what clap's getters say to the command line: the command that was found, its site and its numbers.
use Rattle.std.proofs.Common.{◌≡◌, ◌<◌, ◌≤◌, ◌∙◌, ◌⊎◌, inl, inr, ℕ, Option, Some, None, option_map, refl, List, sym, ap, arith, [], ◌∷◌, codes, subst}
use Rattle.stamped_store.specs.SiteNames.{IsSiteName}
use Rattle.clap.specs.Words.{Row, Text, first_of, subcommand_rows_of, subcommand_name_of}
use Rattle.program_lines.specs.declared.line.Line.{Line}
use Rattle.program_lines.specs.declared.line.Line.TheVariants.{Check, Decide, Load, Serve, Pull, Exchange, Merge, Drill, Explain}
use Rattle.program_lines.specs.Lines.{IsLineOf, IsGiven, IsGivenSite, IsGivenInvalidSite, IsGivenNumber, MayBeGivenNumber, IsNumberIn, IsNamed, HasSites}
use Rattle.program_lines.specs.inner.NoSuchValue.{IsNone}
use Rattle.clap.specs.declared.ArgMatches.{ArgMatches}
use Rattle.clap.specs.declared.ArgMatches.TheViews.{out-ArgMatches}

fuse : {X A B : Type 0} (f : X → A) (g : A → B) (o : Option X) → option_map (λ x. g (f x)) o ≡ option_map g (option_map f o)
fuse f g None = refl
fuse f g (Some x) = refl

same_pairs : {A B : Type 0} (o q : Option (A × B)) → option_map (λ p. p.0) o ≡ option_map (λ p. p.0) q → option_map (λ p. p.1) o ≡ option_map (λ p. p.1) q → o ≡ q
same_pairs None None e f = refl
same_pairs None (Some q) e f = absurd cc
same_pairs (Some p) None e f = absurd cc
same_pairs (Some p) (Some q) e f =
    let x : p.0 ≡ q.0 = cc in
    let y : p.1 ≡ q.1 = cc in
    λ i. Some (x i, y i)

-- the name and the rows of the subcommand that was found
pub met_is : {X : Type 0} (m : ArgMatches) (name : X → Text) (rows : X → List Row) (result : Option X)
    → option_map name result ≡ subcommand_name_of m
    → option_map rows result ≡ option_map (λ p. p.1) (subcommand_rows_of m)
    → option_map (λ x. (name x, rows x)) result ≡ subcommand_rows_of m
met_is m name rows result e f =
    same_pairs _ _ (sym (fuse (λ x. (name x, rows x)) (λ p. p.0) result) ∙ e ∙ fuse _ (λ p. p.0) (out-ArgMatches m).subcommand)
    (sym (fuse (λ x. (name x, rows x)) (λ p. p.1) result) ∙ f)

-- ---- the command that was found

-- of another word there is no command
pub unknown_word : (word : Text) (rows : List Row) → ¬ (word ≡ codes "check") → ¬ (word ≡ codes "decide")
    → ¬ (word ≡ codes "load") → ¬ (word ≡ codes "serve") → ¬ (word ≡ codes "pull") → ¬ (word ≡ codes "exchange") → ¬ (word ≡ codes "merge") → ¬ (word ≡ codes "drill")
    → ¬ (word ≡ codes "explain") → (line : Line) → IsLineOf word rows line → ⊥
unknown_word word rows a b l c d x e f y (Check options) is = a (sym is.0)
unknown_word word rows a b l c d x e f y (Decide options) is = b (sym is.0)
unknown_word word rows a b l c d x e f y (Load options) is = l (sym is.0)
unknown_word word rows a b l c d x e f y (Serve options) is = c (sym is.0)
unknown_word word rows a b l c d x e f y (Pull options) is = d (sym is.0)
unknown_word word rows a b l c d x e f y (Exchange options) is = x (sym is.0)
unknown_word word rows a b l c d x e f y (Merge options) is = e (sym is.0)
unknown_word word rows a b l c d x e f y (Drill options) is = f (sym is.0)
unknown_word word rows a b l c d x e f y (Explain options) is = y (sym is.0)

-- something was given, and is no such thing
none_given : (rows : List Row) (id text : Text) → first_of id rows ≡ None → IsGiven rows id text → ⊥
none_given rows id text e f = absurd cc

-- two words differ where their first letters do
abbrev first_letter : Text → ℕ
first_letter [] = 0
first_letter (letter ∷ letters) = letter

unlike : (a b : ℕ) (s t : Text) → first_letter s ≡ a → first_letter t ≡ b → (a < b) ⊎ (b < a) → s ≡ t → ⊥
unlike a b s t f g which e = by_order which
  where
    same : a ≡ b
    same = sym f ∙ ap first_letter e ∙ g

    by_order : (a < b) ⊎ (b < a) → ⊥
    by_order (inl less) = absurd (omega (arith, less, same))
    by_order (inr less) = absurd (omega (arith, less, same))

-- two that share the first letter differ where their second letters do
abbrev tail_of : Text → Text
tail_of [] = []
tail_of (letter ∷ letters) = letters

unlike_behind : (a b : ℕ) (s t : Text) → first_letter (tail_of s) ≡ a → first_letter (tail_of t) ≡ b → (a < b) ⊎ (b < a) → s ≡ t → ⊥
unlike_behind a b s t f g which e = unlike a b (tail_of s) (tail_of t) f g which (ap tail_of e)

check_is_no_decide : codes "check" ≡ codes "decide" → ⊥
check_is_no_decide = unlike 99 100 (codes "check") (codes "decide") refl refl (inl (omega arith))

check_is_no_serve : codes "check" ≡ codes "serve" → ⊥
check_is_no_serve = unlike 99 115 (codes "check") (codes "serve") refl refl (inl (omega arith))

check_is_no_pull : codes "check" ≡ codes "pull" → ⊥
check_is_no_pull = unlike 99 112 (codes "check") (codes "pull") refl refl (inl (omega arith))

check_is_no_merge : codes "check" ≡ codes "merge" → ⊥
check_is_no_merge = unlike 99 109 (codes "check") (codes "merge") refl refl (inl (omega arith))

decide_is_no_check : codes "decide" ≡ codes "check" → ⊥
decide_is_no_check = unlike 100 99 (codes "decide") (codes "check") refl refl (inr (omega arith))

decide_is_no_serve : codes "decide" ≡ codes "serve" → ⊥
decide_is_no_serve = unlike 100 115 (codes "decide") (codes "serve") refl refl (inl (omega arith))

decide_is_no_pull : codes "decide" ≡ codes "pull" → ⊥
decide_is_no_pull = unlike 100 112 (codes "decide") (codes "pull") refl refl (inl (omega arith))

decide_is_no_merge : codes "decide" ≡ codes "merge" → ⊥
decide_is_no_merge = unlike 100 109 (codes "decide") (codes "merge") refl refl (inl (omega arith))

serve_is_no_check : codes "serve" ≡ codes "check" → ⊥
serve_is_no_check = unlike 115 99 (codes "serve") (codes "check") refl refl (inr (omega arith))

serve_is_no_decide : codes "serve" ≡ codes "decide" → ⊥
serve_is_no_decide = unlike 115 100 (codes "serve") (codes "decide") refl refl (inr (omega arith))

serve_is_no_pull : codes "serve" ≡ codes "pull" → ⊥
serve_is_no_pull = unlike 115 112 (codes "serve") (codes "pull") refl refl (inr (omega arith))

serve_is_no_merge : codes "serve" ≡ codes "merge" → ⊥
serve_is_no_merge = unlike 115 109 (codes "serve") (codes "merge") refl refl (inr (omega arith))

pull_is_no_check : codes "pull" ≡ codes "check" → ⊥
pull_is_no_check = unlike 112 99 (codes "pull") (codes "check") refl refl (inr (omega arith))

pull_is_no_decide : codes "pull" ≡ codes "decide" → ⊥
pull_is_no_decide = unlike 112 100 (codes "pull") (codes "decide") refl refl (inr (omega arith))

pull_is_no_serve : codes "pull" ≡ codes "serve" → ⊥
pull_is_no_serve = unlike 112 115 (codes "pull") (codes "serve") refl refl (inl (omega arith))

pull_is_no_merge : codes "pull" ≡ codes "merge" → ⊥
pull_is_no_merge = unlike 112 109 (codes "pull") (codes "merge") refl refl (inr (omega arith))

merge_is_no_check : codes "merge" ≡ codes "check" → ⊥
merge_is_no_check = unlike 109 99 (codes "merge") (codes "check") refl refl (inr (omega arith))

merge_is_no_decide : codes "merge" ≡ codes "decide" → ⊥
merge_is_no_decide = unlike 109 100 (codes "merge") (codes "decide") refl refl (inr (omega arith))

merge_is_no_serve : codes "merge" ≡ codes "serve" → ⊥
merge_is_no_serve = unlike 109 115 (codes "merge") (codes "serve") refl refl (inl (omega arith))

merge_is_no_pull : codes "merge" ≡ codes "pull" → ⊥
merge_is_no_pull = unlike 109 112 (codes "merge") (codes "pull") refl refl (inl (omega arith))

check_is_no_drill : codes "check" ≡ codes "drill" → ⊥
check_is_no_drill = unlike 99 100 (codes "check") (codes "drill") refl refl (inl (omega arith))

decide_is_no_drill : codes "decide" ≡ codes "drill" → ⊥
decide_is_no_drill = unlike_behind 101 114 (codes "decide") (codes "drill") refl refl (inl (omega arith))

serve_is_no_drill : codes "serve" ≡ codes "drill" → ⊥
serve_is_no_drill = unlike 115 100 (codes "serve") (codes "drill") refl refl (inr (omega arith))

pull_is_no_drill : codes "pull" ≡ codes "drill" → ⊥
pull_is_no_drill = unlike 112 100 (codes "pull") (codes "drill") refl refl (inr (omega arith))

merge_is_no_drill : codes "merge" ≡ codes "drill" → ⊥
merge_is_no_drill = unlike 109 100 (codes "merge") (codes "drill") refl refl (inr (omega arith))

check_is_no_load : codes "check" ≡ codes "load" → ⊥
check_is_no_load = unlike 99 108 (codes "check") (codes "load") refl refl (inl (omega arith))

decide_is_no_load : codes "decide" ≡ codes "load" → ⊥
decide_is_no_load = unlike 100 108 (codes "decide") (codes "load") refl refl (inl (omega arith))

serve_is_no_load : codes "serve" ≡ codes "load" → ⊥
serve_is_no_load = unlike 115 108 (codes "serve") (codes "load") refl refl (inr (omega arith))

pull_is_no_load : codes "pull" ≡ codes "load" → ⊥
pull_is_no_load = unlike 112 108 (codes "pull") (codes "load") refl refl (inr (omega arith))

merge_is_no_load : codes "merge" ≡ codes "load" → ⊥
merge_is_no_load = unlike 109 108 (codes "merge") (codes "load") refl refl (inr (omega arith))

drill_is_no_load : codes "drill" ≡ codes "load" → ⊥
drill_is_no_load = unlike 100 108 (codes "drill") (codes "load") refl refl (inl (omega arith))

exchange_is_no_check : codes "exchange" ≡ codes "check" → ⊥
exchange_is_no_check = unlike 101 99 (codes "exchange") (codes "check") refl refl (inr (omega arith))

exchange_is_no_decide : codes "exchange" ≡ codes "decide" → ⊥
exchange_is_no_decide = unlike 101 100 (codes "exchange") (codes "decide") refl refl (inr (omega arith))

exchange_is_no_load : codes "exchange" ≡ codes "load" → ⊥
exchange_is_no_load = unlike 101 108 (codes "exchange") (codes "load") refl refl (inl (omega arith))

exchange_is_no_serve : codes "exchange" ≡ codes "serve" → ⊥
exchange_is_no_serve = unlike 101 115 (codes "exchange") (codes "serve") refl refl (inl (omega arith))

exchange_is_no_pull : codes "exchange" ≡ codes "pull" → ⊥
exchange_is_no_pull = unlike 101 112 (codes "exchange") (codes "pull") refl refl (inl (omega arith))

exchange_is_no_merge : codes "exchange" ≡ codes "merge" → ⊥
exchange_is_no_merge = unlike 101 109 (codes "exchange") (codes "merge") refl refl (inl (omega arith))

exchange_is_no_drill : codes "exchange" ≡ codes "drill" → ⊥
exchange_is_no_drill = unlike 101 100 (codes "exchange") (codes "drill") refl refl (inr (omega arith))

check_is_no_explain : codes "check" ≡ codes "explain" → ⊥
check_is_no_explain = unlike 99 101 (codes "check") (codes "explain") refl refl (inl (omega arith))

decide_is_no_explain : codes "decide" ≡ codes "explain" → ⊥
decide_is_no_explain = unlike 100 101 (codes "decide") (codes "explain") refl refl (inl (omega arith))

serve_is_no_explain : codes "serve" ≡ codes "explain" → ⊥
serve_is_no_explain = unlike 115 101 (codes "serve") (codes "explain") refl refl (inr (omega arith))

pull_is_no_explain : codes "pull" ≡ codes "explain" → ⊥
pull_is_no_explain = unlike 112 101 (codes "pull") (codes "explain") refl refl (inr (omega arith))

merge_is_no_explain : codes "merge" ≡ codes "explain" → ⊥
merge_is_no_explain = unlike 109 101 (codes "merge") (codes "explain") refl refl (inr (omega arith))

drill_is_no_explain : codes "drill" ≡ codes "explain" → ⊥
drill_is_no_explain = unlike 100 101 (codes "drill") (codes "explain") refl refl (inl (omega arith))

load_is_no_explain : codes "load" ≡ codes "explain" → ⊥
load_is_no_explain = unlike 108 101 (codes "load") (codes "explain") refl refl (inr (omega arith))

exchange_is_no_explain : codes "exchange" ≡ codes "explain" → ⊥
exchange_is_no_explain e =
    unlike_behind 99 112 (tail_of (codes "exchange")) (tail_of (codes "explain")) refl refl (inl (omega arith)) (ap tail_of e)

-- ---- what a command of each word has

module _ (rows : List Row) where
  of_check : (line : Line) → IsLineOf (codes "check") rows line → ((text : Text) × IsGiven rows (codes "schema") text)
      × ((text : Text) × IsGiven rows (codes "policies") text)
  of_check (Check options) is = ((options.schema.now, is.1.0), (options.policies.now, is.1.1))
  of_check (Decide options) is = absurd (decide_is_no_check is.0)
  of_check (Load options) is = absurd (check_is_no_load (sym is.0))
  of_check (Serve options) is = absurd (serve_is_no_check is.0)
  of_check (Pull options) is = absurd (pull_is_no_check is.0)
  of_check (Exchange options) is = absurd (exchange_is_no_check is.0)
  of_check (Merge options) is = absurd (merge_is_no_check is.0)
  of_check (Drill options) is = absurd (check_is_no_drill (sym is.0))
  of_check (Explain options) is = absurd (check_is_no_explain (sym is.0))

  of_decide : (line : Line) → IsLineOf (codes "decide") rows line → ((text : Text) × IsGiven rows (codes "policies") text)
      × ((text : Text) × IsGiven rows (codes "entities") text)
      × ((text : Text) × IsGiven rows (codes "request") text)
  of_decide (Check options) is = absurd (check_is_no_decide is.0)
  of_decide (Decide options) is = ((options.policies.now, is.1.1), (options.entities.now, is.1.2), (options.request.now, is.1.3))
  of_decide (Load options) is = absurd (decide_is_no_load (sym is.0))
  of_decide (Serve options) is = absurd (serve_is_no_decide is.0)
  of_decide (Pull options) is = absurd (pull_is_no_decide is.0)
  of_decide (Exchange options) is = absurd (exchange_is_no_decide is.0)
  of_decide (Merge options) is = absurd (merge_is_no_decide is.0)
  of_decide (Drill options) is = absurd (decide_is_no_drill (sym is.0))
  of_decide (Explain options) is = absurd (decide_is_no_explain (sym is.0))

  of_load : (line : Line) → IsLineOf (codes "load") rows line → ((text : Text) × IsGiven rows (codes "schema") text)
      × ((text : Text) × IsGivenSite rows text)
  of_load (Check options) is = absurd (check_is_no_load is.0)
  of_load (Decide options) is = absurd (decide_is_no_load is.0)
  of_load (Load options) is = ((options.schema.now, is.1.0), (options.site, is.1.1))
  of_load (Serve options) is = absurd (serve_is_no_load is.0)
  of_load (Pull options) is = absurd (pull_is_no_load is.0)
  of_load (Exchange options) is = absurd (exchange_is_no_load is.0)
  of_load (Merge options) is = absurd (merge_is_no_load is.0)
  of_load (Drill options) is = absurd (drill_is_no_load is.0)
  of_load (Explain options) is = absurd (load_is_no_explain (sym is.0))

  of_serve : (line : Line) → IsLineOf (codes "serve") rows line → ((text : Text) × IsGiven rows (codes "schema") text)
      × ((text : Text) × IsGivenSite rows text)
      × ((text : Text) × IsGiven rows (codes "listen") text)
      × ((number : Option ℕ) × MayBeGivenNumber rows (codes "connections") 0 4294967295 number)
      × ((number : Option ℕ) × MayBeGivenNumber rows (codes "clients") 1 1024 number)
      × ((number : Option ℕ) × MayBeGivenNumber rows (codes "idle") 0 86400 number)
  of_serve (Check options) is = absurd (check_is_no_serve is.0)
  of_serve (Decide options) is = absurd (decide_is_no_serve is.0)
  of_serve (Load options) is = absurd (serve_is_no_load (sym is.0))
  of_serve (Serve options) is = ((options.schema.now, is.1.0), (options.site, is.1.1), (options.listen.now, is.1.2), (options.connections, is.1.4), (options.clients, is.1.5), (options.idle, is.1.6))
  of_serve (Pull options) is = absurd (pull_is_no_serve is.0)
  of_serve (Exchange options) is = absurd (exchange_is_no_serve is.0)
  of_serve (Merge options) is = absurd (merge_is_no_serve is.0)
  of_serve (Drill options) is = absurd (serve_is_no_drill (sym is.0))
  of_serve (Explain options) is = absurd (serve_is_no_explain (sym is.0))

  of_pull : (line : Line) → IsLineOf (codes "pull") rows line → ((text : Text) × IsGiven rows (codes "schema") text)
      × ((text : Text) × IsGivenSite rows text)
      × ((text : Text) × IsGiven rows (codes "from") text)
      × ((text : Text) × IsGiven rows (codes "state") text)
  of_pull (Check options) is = absurd (check_is_no_pull is.0)
  of_pull (Decide options) is = absurd (decide_is_no_pull is.0)
  of_pull (Load options) is = absurd (pull_is_no_load (sym is.0))
  of_pull (Serve options) is = absurd (serve_is_no_pull is.0)
  of_pull (Pull options) is = ((options.schema.now, is.1.0), (options.site, is.1.1), (options.from.now, is.1.2), (options.state.now, is.1.3))
  of_pull (Exchange options) is = absurd (exchange_is_no_pull is.0)
  of_pull (Merge options) is = absurd (merge_is_no_pull is.0)
  of_pull (Drill options) is = absurd (pull_is_no_drill (sym is.0))
  of_pull (Explain options) is = absurd (pull_is_no_explain (sym is.0))

  of_exchange : (line : Line) → IsLineOf (codes "exchange") rows line → ((text : Text) × IsGiven rows (codes "schema") text)
      × ((text : Text) × IsGiven rows (codes "between") text)
      × ((text : Text) × IsGiven rows (codes "and") text)
  of_exchange (Check options) is = absurd (exchange_is_no_check (sym is.0))
  of_exchange (Decide options) is = absurd (exchange_is_no_decide (sym is.0))
  of_exchange (Load options) is = absurd (exchange_is_no_load (sym is.0))
  of_exchange (Serve options) is = absurd (exchange_is_no_serve (sym is.0))
  of_exchange (Pull options) is = absurd (exchange_is_no_pull (sym is.0))
  of_exchange (Exchange options) is = ((options.schema.now, is.1.0), (options.between.now, is.1.1), (options.and.now, is.1.2))
  of_exchange (Merge options) is = absurd (exchange_is_no_merge (sym is.0))
  of_exchange (Drill options) is = absurd (exchange_is_no_drill (sym is.0))
  of_exchange (Explain options) is = absurd (exchange_is_no_explain (sym is.0))

  of_merge : (line : Line) → IsLineOf (codes "merge") rows line → ((text : Text) × IsGiven rows (codes "schema") text)
      × ((text : Text) × IsGiven rows (codes "first") text)
      × ((text : Text) × IsGiven rows (codes "second") text)
  of_merge (Check options) is = absurd (check_is_no_merge is.0)
  of_merge (Decide options) is = absurd (decide_is_no_merge is.0)
  of_merge (Load options) is = absurd (merge_is_no_load (sym is.0))
  of_merge (Serve options) is = absurd (serve_is_no_merge is.0)
  of_merge (Pull options) is = absurd (pull_is_no_merge is.0)
  of_merge (Exchange options) is = absurd (exchange_is_no_merge is.0)
  of_merge (Merge options) is = ((options.schema.now, is.1.0), (options.first.now, is.1.1), (options.second.now, is.1.2))
  of_merge (Drill options) is = absurd (merge_is_no_drill (sym is.0))
  of_merge (Explain options) is = absurd (merge_is_no_explain (sym is.0))

  of_drill : (line : Line) → IsLineOf (codes "drill") rows line → ((text : Text) × IsGiven rows (codes "schema") text)
      × ((number : ℕ) × IsGivenNumber rows (codes "sites") 1 64 number)
      × ((text : Text) × IsGiven rows (codes "script") text)
  of_drill (Check options) is = absurd (check_is_no_drill is.0)
  of_drill (Decide options) is = absurd (decide_is_no_drill is.0)
  of_drill (Load options) is = absurd (drill_is_no_load (sym is.0))
  of_drill (Serve options) is = absurd (serve_is_no_drill is.0)
  of_drill (Pull options) is = absurd (pull_is_no_drill is.0)
  of_drill (Exchange options) is = absurd (exchange_is_no_drill is.0)
  of_drill (Merge options) is = absurd (merge_is_no_drill is.0)
  of_drill (Drill options) is = ((options.schema.now, is.1.0), (options.sites, is.1.1), (options.script.now, is.1.2))
  of_drill (Explain options) is = absurd (drill_is_no_explain (sym is.0))

  of_explain : (line : Line) → IsLineOf (codes "explain") rows line → (text : Text) × IsGiven rows (codes "what") text
  of_explain (Check options) is = absurd (check_is_no_explain is.0)
  of_explain (Decide options) is = absurd (decide_is_no_explain is.0)
  of_explain (Load options) is = absurd (load_is_no_explain is.0)
  of_explain (Serve options) is = absurd (serve_is_no_explain is.0)
  of_explain (Pull options) is = absurd (pull_is_no_explain is.0)
  of_explain (Exchange options) is = absurd (exchange_is_no_explain is.0)
  of_explain (Merge options) is = absurd (merge_is_no_explain is.0)
  of_explain (Drill options) is = absurd (drill_is_no_explain is.0)
  of_explain (Explain options) is = (options.what.now, is.1.0)

  -- and so no command of that word lacks it
  pub check_lacks_schema : first_of (codes "schema") rows ≡ None → IsNone (IsLineOf (codes "check") rows)
  check_lacks_schema none line is = none_given rows (codes "schema") (of_check line is).0.0 none (of_check line is).0.1

  pub check_lacks_policies : first_of (codes "policies") rows ≡ None → IsNone (IsLineOf (codes "check") rows)
  check_lacks_policies none line is = none_given rows (codes "policies") (of_check line is).1.0 none (of_check line is).1.1

  pub decide_lacks_policies : first_of (codes "policies") rows ≡ None → IsNone (IsLineOf (codes "decide") rows)
  decide_lacks_policies none line is = none_given rows (codes "policies") (of_decide line is).0.0 none (of_decide line is).0.1

  pub decide_lacks_entities : first_of (codes "entities") rows ≡ None → IsNone (IsLineOf (codes "decide") rows)
  decide_lacks_entities none line is = none_given rows (codes "entities") (of_decide line is).1.0 none (of_decide line is).1.1

  pub decide_lacks_request : first_of (codes "request") rows ≡ None → IsNone (IsLineOf (codes "decide") rows)
  decide_lacks_request none line is = none_given rows (codes "request") (of_decide line is).2.0 none (of_decide line is).2.1

  pub load_lacks_schema : first_of (codes "schema") rows ≡ None → IsNone (IsLineOf (codes "load") rows)
  load_lacks_schema none line is = none_given rows (codes "schema") (of_load line is).0.0 none (of_load line is).0.1

  pub load_lacks_site : IsNone (IsGivenSite rows) → IsNone (IsLineOf (codes "load") rows)
  load_lacks_site none line is = none (of_load line is).1.0 (of_load line is).1.1

  pub serve_lacks_schema : first_of (codes "schema") rows ≡ None → IsNone (IsLineOf (codes "serve") rows)
  serve_lacks_schema none line is = none_given rows (codes "schema") (of_serve line is).0.0 none (of_serve line is).0.1

  pub serve_lacks_site : IsNone (IsGivenSite rows) → IsNone (IsLineOf (codes "serve") rows)
  serve_lacks_site none line is = none (of_serve line is).1.0 (of_serve line is).1.1

  pub serve_lacks_listen : first_of (codes "listen") rows ≡ None → IsNone (IsLineOf (codes "serve") rows)
  serve_lacks_listen none line is = none_given rows (codes "listen") (of_serve line is).2.0 none (of_serve line is).2.1

  pub serve_lacks_connections : IsNone (MayBeGivenNumber rows (codes "connections") 0 4294967295) → IsNone (IsLineOf (codes "serve") rows)
  serve_lacks_connections none line is = none (of_serve line is).3.0 (of_serve line is).3.1

  pub serve_lacks_clients : IsNone (MayBeGivenNumber rows (codes "clients") 1 1024) → IsNone (IsLineOf (codes "serve") rows)
  serve_lacks_clients none line is = none (of_serve line is).4.0 (of_serve line is).4.1

  pub serve_lacks_idle : IsNone (MayBeGivenNumber rows (codes "idle") 0 86400) → IsNone (IsLineOf (codes "serve") rows)
  serve_lacks_idle none line is = none (of_serve line is).5.0 (of_serve line is).5.1

  pub pull_lacks_schema : first_of (codes "schema") rows ≡ None → IsNone (IsLineOf (codes "pull") rows)
  pull_lacks_schema none line is = none_given rows (codes "schema") (of_pull line is).0.0 none (of_pull line is).0.1

  pub pull_lacks_site : IsNone (IsGivenSite rows) → IsNone (IsLineOf (codes "pull") rows)
  pull_lacks_site none line is = none (of_pull line is).1.0 (of_pull line is).1.1

  pub pull_lacks_from : first_of (codes "from") rows ≡ None → IsNone (IsLineOf (codes "pull") rows)
  pull_lacks_from none line is = none_given rows (codes "from") (of_pull line is).2.0 none (of_pull line is).2.1

  pub pull_lacks_state : first_of (codes "state") rows ≡ None → IsNone (IsLineOf (codes "pull") rows)
  pull_lacks_state none line is = none_given rows (codes "state") (of_pull line is).3.0 none (of_pull line is).3.1

  pub exchange_lacks_schema : first_of (codes "schema") rows ≡ None → IsNone (IsLineOf (codes "exchange") rows)
  exchange_lacks_schema none line is = none_given rows (codes "schema") (of_exchange line is).0.0 none (of_exchange line is).0.1

  pub exchange_lacks_between : first_of (codes "between") rows ≡ None → IsNone (IsLineOf (codes "exchange") rows)
  exchange_lacks_between none line is = none_given rows (codes "between") (of_exchange line is).1.0 none (of_exchange line is).1.1

  pub exchange_lacks_and : first_of (codes "and") rows ≡ None → IsNone (IsLineOf (codes "exchange") rows)
  exchange_lacks_and none line is = none_given rows (codes "and") (of_exchange line is).2.0 none (of_exchange line is).2.1

  pub merge_lacks_schema : first_of (codes "schema") rows ≡ None → IsNone (IsLineOf (codes "merge") rows)
  merge_lacks_schema none line is = none_given rows (codes "schema") (of_merge line is).0.0 none (of_merge line is).0.1

  pub merge_lacks_first : first_of (codes "first") rows ≡ None → IsNone (IsLineOf (codes "merge") rows)
  merge_lacks_first none line is = none_given rows (codes "first") (of_merge line is).1.0 none (of_merge line is).1.1

  pub merge_lacks_second : first_of (codes "second") rows ≡ None → IsNone (IsLineOf (codes "merge") rows)
  merge_lacks_second none line is = none_given rows (codes "second") (of_merge line is).2.0 none (of_merge line is).2.1

  pub drill_lacks_schema : first_of (codes "schema") rows ≡ None → IsNone (IsLineOf (codes "drill") rows)
  drill_lacks_schema none line is = none_given rows (codes "schema") (of_drill line is).0.0 none (of_drill line is).0.1

  pub drill_lacks_sites : IsNone (IsGivenNumber rows (codes "sites") 1 64) → IsNone (IsLineOf (codes "drill") rows)
  drill_lacks_sites none line is = none (of_drill line is).1.0 (of_drill line is).1.1

  pub drill_lacks_script : first_of (codes "script") rows ≡ None → IsNone (IsLineOf (codes "drill") rows)
  drill_lacks_script none line is = none_given rows (codes "script") (of_drill line is).2.0 none (of_drill line is).2.1

  pub explain_lacks_what : first_of (codes "what") rows ≡ None → IsNone (IsLineOf (codes "explain") rows)
  explain_lacks_what none line is = none_given rows (codes "what") (of_explain line is).0 none (of_explain line is).1

-- ---- the site
module _ (rows : List Row) where
  same_site : {t u : Text} → first_of (codes "site") rows ≡ Some t → first_of (codes "site") rows ≡ Some u → t ≡ u
  same_site e f = cc

  -- nothing was given
  pub site_lacks : first_of (codes "site") rows ≡ None → IsNone (IsGivenSite rows)
  site_lacks none site given = none_given rows (codes "site") site none given.0

  pub no_site_lacks : first_of (codes "site") rows ≡ None → IsGivenInvalidSite rows → ⊥
  no_site_lacks none given = none_given rows (codes "site") given.0 none given.1

  -- what was given is no site's name
  pub no_site : (text : Text) → first_of (codes "site") rows ≡ Some text → (IsSiteName text → ⊥) → IsNone (IsGivenSite rows)
  no_site text is none site given = none (subst IsSiteName (same_site given.0 is) given.1)

  -- or it is one
  pub some_site : (text : Text) → first_of (codes "site") rows ≡ Some text → IsSiteName text → IsGivenInvalidSite rows → ⊥
  some_site text is named given = given.2 (subst IsSiteName (same_site is given.1) named)

-- ---- numbers

module _ (rows : List Row) (id : Text) (least most : ℕ) where
  -- nothing was given
  pub number_lacks : first_of id rows ≡ None → IsNone (IsGivenNumber rows id least most)
  number_lacks none number given = none_given rows id given.0 none given.1

  -- what was given is no such number
  pub no_number : (text : Text) → first_of id rows ≡ Some text → IsNone (IsNumberIn least most text) → IsNone (IsGivenNumber rows id least most)
  no_number text is none number given = none number (rw (same_text is given.1) given.2)
    where
      same_text : {t u : Text} → first_of id rows ≡ Some t → first_of id rows ≡ Some u → t ≡ u
      same_text e f = cc

  pub no_number_if_given : (text : Text) → first_of id rows ≡ Some text → IsNone (IsNumberIn least most text) → IsNone (MayBeGivenNumber rows id least most)
  no_number_if_given text is none None lacks = absurd cc
  no_number_if_given text is none (Some number) given = no_number text is none number given

-- what was given lies in its bounds
in_bounds : (rows : List Row) (id : Text) (least most number : ℕ) → IsGivenNumber rows id least most number
    → (least ≤ number) × (number ≤ most)
in_bounds rows id least most number given =
    let same = given.2.1 in
    let low = given.2.0.2 in
    let high = given.2.0.3 in
    (omega (arith, same, low), omega (arith, same, high))

pub named_sites : (line : Line) (named : Option (Text × List Row)) → IsNamed line named → HasSites line
named_sites line None is = absurd is
named_sites (Check options) (Some named) is = tt
named_sites (Decide options) (Some named) is = tt
named_sites (Load options) (Some named) is = tt
named_sites (Serve options) (Some named) is = tt
named_sites (Pull options) (Some named) is = tt
named_sites (Exchange options) (Some named) is = tt
named_sites (Merge options) (Some named) is = tt
named_sites (Explain options) (Some named) is = tt
named_sites (Drill options) (Some named) is = in_bounds named.1 (codes "sites") 1 64 options.sites is.1.1
