-- Lines, each with its end, and the last end taken away.
use Rattle.std.proofs.Common.{◌≡◌, ◌∙◌, ℕ, ◌+◌, ◌<◌, List, [], ◌∷◌, ◌++◌, length, map, Option, Some, None, refl, sym}
use Rattle.std.proofs.Common.{ap, arith, false}
use Rattle.std.specs.Option.{option_to_list, IsSome}
use Rattle.std.specs.List.{AllZip, join_with_byte}
use Rattle.std.proofs.lemmas.List.{append_assoc, append-nil, length-append, map-append}
use Rattle.serde_json.specs.Written.{has_float}
use Rattle.http_service.specs.site.SiteViews.{SiteView}
use Rattle.http_service.specs.site.declared.event.EventReply.{EventReply}
use Rattle.program_drills.specs.Lines.{line_end}
use Rattle.program_drills.specs.EventReports.{message_json, summary_json, state_line}
use Rattle.program_drills.specs.Drills.{IsEventLine}
use Rattle.program_drills.specs.inner.LineFeeds.{ended, AppendsEventLines, AppendsEventLine}
use Rattle.program_drills.proofs.ScriptSteps.{zip_more}

pub no_float_message : (k : ℕ) → has_float (message_json k) ≡ false
no_float_message k = refl

pub no_float_summary : (k : ℕ) → has_float (summary_json k) ≡ false
no_float_summary k = refl

-- one line more
ended_more : (ls : List (List ℕ)) (l : List ℕ) → ended (ls ++ l ∷ []) ≡ ended ls ++ (l ++ line_end ∷ [])
ended_more [] l = append-nil (l ++ line_end ∷ [])
ended_more (m ∷ ls) l =
    ap (λ (t : List ℕ). (m ++ line_end ∷ []) ++ t) (ended_more ls l)
    ∙ sym (append_assoc (m ++ line_end ∷ []) (ended ls) (l ++ line_end ∷ []))

pub ended_both : (ls ms : List (List ℕ)) → ended (ls ++ ms) ≡ ended ls ++ ended ms
ended_both [] ms = refl
ended_both (l ∷ ls) ms =
    ap (λ (t : List ℕ). (l ++ line_end ∷ []) ++ t) (ended_both ls ms)
    ∙ sym (append_assoc (l ++ line_end ∷ []) (ended ls) (ended ms))

pub none_told : (before : List ℕ) → AppendsEventLines [] before before
none_told before = ([], tt, sym (append-nil before))

pub told_more : (answers : List EventReply) (answer : EventReply) (before was now after : List ℕ) → AppendsEventLines answers before was
    → AppendsEventLine answer was now → after ≡ now ++ line_end ∷ [] → AppendsEventLines (answers ++ answer ∷ []) before after
told_more answers answer before was now after told one end = (
  told.0 ++ one.0 ∷ [],
  zip_more IsEventLine answers told.0 answer one.0 told.1 one.1,
  end ∙ ap (λ (t : List ℕ). t ++ line_end ∷ []) (one.2 ∙ ap (λ (t : List ℕ). t ++ one.0) told.2)
      ∙ append_assoc (before ++ ended told.0) one.0 (line_end ∷ [])
      ∙ append_assoc before (ended told.0) (one.0 ++ line_end ∷ [])
      ∙ ap (λ (t : List ℕ). before ++ t) (sym (ended_more told.0 one.0)),
)

pub states_more : (sites : List SiteView) (site : SiteView) (before was now : List ℕ) → was ≡ before ++ ended (map state_line sites)
    → now ≡ was ++ (state_line site ++ line_end ∷ []) → now ≡ before ++ ended (map state_line (sites ++ site ∷ []))
states_more sites site before was now told one =
    one ∙ ap (λ (t : List ℕ). t ++ (state_line site ++ line_end ∷ [])) told
    ∙ append_assoc before (ended (map state_line sites)) (state_line site ++ line_end ∷ [])
    ∙ ap (λ (t : List ℕ). before ++ t) (sym (ended_more (map state_line sites) (state_line site)))
    ∙ ap (λ (ls : List (List ℕ)). before ++ ended ls) (sym (map-append state_line sites (site ∷ [])))

-- ---- the last end taken away

abbrev tail_of : List ℕ → List ℕ
tail_of [] = []
tail_of (x ∷ xs) = xs

abbrev head_of : ℕ → List ℕ → ℕ
head_of d [] = d
head_of d (x ∷ xs) = x

some_behind : (xs : List ℕ) (a : ℕ) → xs ++ a ∷ [] ≡ [] → ⊥
some_behind xs a e =
    let many : length (xs ++ a ∷ []) ≡ 0 = ap length e in
    let parts = length-append xs (a ∷ []) in
    absurd (omega (arith, many, parts))

same_front : (xs ys : List ℕ) (a b : ℕ) → xs ++ a ∷ [] ≡ ys ++ b ∷ [] → xs ≡ ys
same_front [] [] a b e = refl
same_front [] (y ∷ ys) a b e = absurd (some_behind ys b (sym (ap tail_of e)))
same_front (x ∷ xs) [] a b e = absurd (some_behind xs a (ap tail_of e))
same_front (x ∷ xs) (y ∷ ys) a b e =
    let heads : x ≡ y = ap (head_of x) e in
    let tails : xs ≡ ys = same_front xs ys a b (ap tail_of e) in
    λ i. heads i ∷ tails i

ended_joined : (l : List ℕ) (ls : List (List ℕ)) → ended (l ∷ ls) ≡ join_with_byte line_end (l ∷ ls) ++ line_end ∷ []
ended_joined l [] = append-nil (l ++ line_end ∷ [])
ended_joined l (m ∷ ls) =
    ap (λ (t : List ℕ). (l ++ line_end ∷ []) ++ t) (ended_joined m ls)
    ∙ append_assoc l (line_end ∷ []) (join_with_byte line_end (m ∷ ls) ++ line_end ∷ [])
    ∙ sym (append_assoc l (line_end ∷ join_with_byte line_end (m ∷ ls)) (line_end ∷ []))

front_empty : (text : List ℕ) (last : Option ℕ) → [] ≡ text ++ option_to_list last → text ≡ []
front_empty [] last e = refl
front_empty (x ∷ xs) last e = absurd cc

by_last : (l : List ℕ) (ls : List (List ℕ)) (text : List ℕ) (last : Option ℕ) → ended (l ∷ ls) ≡ text ++ option_to_list last
    → IsSome last → text ≡ join_with_byte line_end (l ∷ ls)
by_last l ls text None e some = absurd cc
by_last l ls text (Some x) e some = same_front text (join_with_byte line_end (l ∷ ls)) x line_end (sym e ∙ ended_joined l ls)

some_ended : (l : List ℕ) (ls : List (List ℕ)) → 0 < length (ended (l ∷ ls))
some_ended l ls =
    let one : length (l ++ line_end ∷ []) ≡ length l + 1 = length-append l (line_end ∷ []) in
    let all = length-append (l ++ line_end ∷ []) (ended ls) in
    omega (arith, one, all)

pub last_taken : (all : List (List ℕ)) (text : List ℕ) (last : Option ℕ) → ended all ≡ text ++ option_to_list last
    → (0 < length (ended all) → IsSome last) → text ≡ join_with_byte line_end all
last_taken [] text last e some = front_empty text last e
last_taken (l ∷ ls) text last e some = by_last l ls text last e (some (some_ended l ls))

-- all lines of a world
pub world_told : (answers : List EventReply) (sites : List SiteView) (none first second text : List ℕ) (last : Option ℕ) → none ≡ []
    → AppendsEventLines answers none first → second ≡ first ++ ended (map state_line sites) → second ≡ text ++ option_to_list last
    → (0 < length second → IsSome last)
    → (lines : List (List ℕ)) × AllZip IsEventLine answers lines × (text ≡ join_with_byte line_end (lines ++ map state_line sites))
world_told answers sites none first second text last empty told states popped some =
    let all : second ≡ ended (told.0 ++ map state_line sites) =
    states ∙ ap (λ (t : List ℕ). t ++ ended (map state_line sites)) (told.2 ∙ ap (λ (t : List ℕ). t ++ ended told.0) empty)
    ∙ sym (ended_both told.0 (map state_line sites)) in (
      told.0,
      told.1,
      last_taken (told.0 ++ map state_line sites) text last (sym all ∙ popped)
          (λ h. some (rw all h)),
    )
