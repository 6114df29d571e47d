-- The line of a request that was served is one line, and that of a change that was made has its stamp.
use Rattle.std.proofs.Common.{◌≡◌, ◌≤◌, ◌<◌, ◌+◌, ◌⊎◌, inl, inr, ℕ, Bool, true, false, List, ◌++◌, length, length-append, Option, Some, None}
use Rattle.std.proofs.Common.{Result, Ok, Err, refl, sym, ap, ◌∙◌, subst, arith, codes, decimal, ◌==◌, ◌||◌}
use Rattle.std.specs.Prelude.{if◌then◌else◌}
use Rattle.std.proofs.lemmas.Bool.{le-leb}
use Rattle.std.proofs.lemmas.Fmt.{length-decimal-le}
use Rattle.json_words.specs.Json.{json_of}
use Rattle.serde_json.specs.Data.{Data, boolean, number, unsigned, string, object, no_members, member}
use Rattle.http.specs.declared.status.StatusCode.{StatusCode}
use Rattle.http_service.proofs.Feeds.{compact_free, input_one, line_unread, log_line_one, made_one, plain_one}
use Rattle.http_service.specs.LogLines.{IsLogLine, IsUndone, head_text, made_tail, stamp_tail, plain_tail, tail_of, text_of}
use Rattle.http_service.specs.LogLines.{unread_line}
use Rattle.http_service.specs.OneLine.{HasNoLineFeed, IsOneLine}
use Rattle.http_service.specs.Routes.{Asked, route_stated}
use Rattle.http_replies.proofs.LineLemmas.{stamp_pieces, put_pieces}
use Rattle.http_replies.specs.answer_lines.Lines.{answer_json, answer_line}
use Rattle.http_replies.specs.answer_lines.declared.place.Place.{Place}
use Rattle.http_replies.specs.answer_lines.declared.place.Place.TheVariants as position
use Rattle.http_replies.specs.answer_lines.Refusals.{error_line, refusal_json}
use Rattle.http_replies.specs.inner.Pieces.{boolean_word, site_end}
use Rattle.http_replies.specs.Answers.{Replies}
use Rattle.http_replies.specs.Lines.{fault_line, found_json, found_line, put_line, stamp_line, taken_line}
use Rattle.http_replies.specs.Replies.{fault_reply, put_reply, stamp_reply}
use Rattle.http_replies.specs.Reports.{reported}
use Rattle.http_replies.specs.site.Faults.{code_of, within_of}
use Rattle.http_replies.specs.Replies.{fault_place}
use Rattle.http_replies.specs.site.Inputs.{Input}
use Rattle.http_replies.specs.site.Inputs as input
use Rattle.http_replies.specs.site.Readings.{parsed}
use Rattle.http_replies.specs.site.Runs.{Step}
use Rattle.http_replies.specs.site.SiteViews.{SiteView, schema_of, store_in}
use Rattle.http_replies.specs.site.Steps.{DeletesEntity, DeletesPolicy, PutsEntity, PutsPolicy, Records, most_count}
use Rattle.http_replies.specs.site.declared.fault.SiteFault.{SiteFault}
use Rattle.http_replies.specs.site.declared.fault.SiteFault.TheVariants as fault
use Rattle.http_replies.specs.site.declared.outcome.Put.{Put}
use Rattle.http_replies.specs.site.declared.outcome.Taken.TheVariants.{All, Short}
use Rattle.http_replies.specs.site.declared.reply.Reply.{Reply}
use Rattle.http_replies.specs.site.declared.reply.Reply.TheVariants as told
use Rattle.http_replies.specs.entities.Canonical.{canonical_text}
use Rattle.http_replies.specs.schema.Schemas.{StatedSchema}
use Rattle.http_replies.specs.stamped_store.Greatest.{greatest_count}
use Rattle.http_replies.specs.stamped_store.SiteNames.{IsSiteName}
use Rattle.http_replies.specs.stamped_store.Store.{Store, entity_name, issue, policy_name}
use Rattle.http_replies.specs.stamped_store.declared.entry.Stamp.{Stamp}
use Rattle.values.specs.declared.name.Name.{Name}
use Rattle.http_service.specs.RequestReplies.{RepliesTo, answers}
use Rattle.http_service.specs.Lines.{IsChange, stamped_end}

-- ---- the lengths of stamps

three_fit : (a b c : List ℕ) → length a ≤ 9 → length b ≤ 20 → length c ≤ 62 → length (a ++ (b ++ c)) ≤ 128
three_fit a b c f g h =
    let all = length-append a (b ++ c) in let rest = length-append b c in omega (arith, all, rest, f, g, h)

key_fits : length (codes "{\"count\":") ≤ 9
key_fits = let counted : length (codes "{\"count\":") ≡ 9 = refl in omega (arith, counted)

digits_fit : (n : ℕ) → n ≤ most_count → length (decimal n) ≤ 20
digits_fit n few = length-decimal-le 20 n (omega arith) (omega (arith, few)) (omega (arith, few))

end_fits : (site : List ℕ) → length site ≤ 32 → length (site_end site) ≤ 43
end_fits site short =
    let all : length (site_end site) ≡ 9 + length (site ++ codes "\"}") =
    length-append (codes ",\"site\":\"") (site ++ codes "\"}") in
    let rest : length (site ++ codes "\"}") ≡ length site + 2 = length-append site (codes "\"}") in
    omega (arith, all, rest, short)

pub stamp_fits : (s : Stamp) → IsSiteName s.site → s.count ≤ most_count → length (stamp_line s) ≤ 128
stamp_fits s named few =
    let shut = end_fits s.site named.short in
    let held = three_fit (codes "{\"count\":") (decimal s.count) (site_end s.site) key_fits (digits_fit s.count few)
    (omega (arith, shut)) in
    subst (λ (l : List ℕ). length l ≤ 128) (sym (stamp_pieces s named)) held

word_fits : (b : Bool) → length (boolean_word b) ≤ 5
word_fits true = let counted : length (codes "true") ≡ 4 = refl in omega (arith, counted)
word_fits false = let counted : length (codes "false") ≡ 5 = refl in omega (arith, counted)

impossible_fits : (b : Bool) (site : List ℕ) → length site ≤ 32
    → length (codes ",\"impossible\":" ++ (boolean_word b ++ site_end site)) ≤ 62
impossible_fits b site short =
    let all : length (codes ",\"impossible\":" ++ (boolean_word b ++ site_end site))
    ≡ 14 + length (boolean_word b ++ site_end site) =
    length-append (codes ",\"impossible\":") (boolean_word b ++ site_end site) in
    let rest = length-append (boolean_word b) (site_end site) in
    let word = word_fits b in let shut = end_fits site short in omega (arith, all, rest, word, shut)

pub put_fits : (s : Stamp) (impossible : Bool) → IsSiteName s.site → s.count ≤ most_count → length (put_line s impossible) ≤ 128
put_fits s impossible named few =
    let held = three_fit (codes "{\"count\":") (decimal s.count)
    (codes ",\"impossible\":" ++ (boolean_word impossible ++ site_end s.site)) key_fits (digits_fit s.count few)
    (impossible_fits impossible s.site named.short) in
    subst (λ (l : List ℕ). length l ≤ 128) (sym (put_pieces s impossible named)) held

-- ---- the reply to a change that was made

issued_name : (n : List ℕ) (s : Store) (stamp : Stamp) → IsSiteName n → stamp ≡ issue s n → IsSiteName stamp.site
issued_name n s stamp named is = subst (λ (x : Stamp). IsSiteName x.site) (sym is) named

issued_count : (n : List ℕ) (s : Store) (stamp : Stamp) → greatest_count s < most_count → stamp ≡ issue s n → stamp.count ≤ most_count
issued_count n s stamp clock is =
    let next : stamp.count ≡ greatest_count s + 1 = ap (λ (x : Stamp). x.count) is in omega (arith, next, clock)

-- the reply of status 200 with this body
abbrev IsMade : List ℕ → StatusCode × List ℕ → Type 0
IsMade line pair = ◌≡◌ {A = StatusCode × List ℕ} (200, line) pair

never : (n : ℕ) (a b c d : Bool) → n ≡ (if a then 404 else if b || c then 409 else if d then 503 else 422) → n ≡ 200 → ⊥
never n true b c d e f = omega (arith, e, f)
never n false true c d e f = omega (arith, e, f)
never n false false true d e f = omega (arith, e, f)
never n false false false true e f = omega (arith, e, f)
never n false false false false e f = omega (arith, e, f)

fault_made : (f : SiteFault) (line : List ℕ) → IsMade line (fault_reply f) → ⊥
fault_made f line e =
    never 200 (code_of f == 60) (code_of f == 61) (code_of f == 62) (code_of f == 1)
    (ap (λ (p : StatusCode × List ℕ). p.0) e) refl

same_length : (line : List ℕ) (pair : StatusCode × List ℕ) → IsMade line pair → length pair.1 ≤ 128 → length line ≤ 128
same_length line pair e h = subst (λ (l : List ℕ). length l ≤ 128) (sym (ap (λ (p : StatusCode × List ℕ). p.1) e)) h

recorded : (n : List ℕ) (s : Store) (name : Name) (body : Option (List ℕ)) (stamp : Stamp) (t : Store) (line : List ℕ)
    → IsSiteName n → Records n s name body stamp t → IsMade line (stamp_reply (Ok stamp)) → length line ≤ 128
recorded n s name body stamp t line named made e =
    same_length line (stamp_reply (Ok stamp)) e
    (stamp_fits stamp (issued_name n s stamp named made.next) (issued_count n s stamp made.clock made.next))

policy_put : (schema : StatedSchema) (n : List ℕ) (s : Store) (id text : List ℕ) (r : Result Put SiteFault) (t : Store) (line : List ℕ)
    → IsSiteName n → PutsPolicy schema n s id text r t → IsMade line (put_reply r) → length line ≤ 128
policy_put schema n s id text (Ok put) t line named (p, admitted, known, made) e =
    same_length line (put_reply (Ok put)) e
    (put_fits put.stamp put.impossible (issued_name n s put.stamp named made.next)
    (issued_count n s put.stamp made.clock made.next))
policy_put schema n s id text (Err f) t line named h e = absurd (fault_made f line e)

entity_put : (schema : StatedSchema) (n : List ℕ) (s : Store) (json : Option Data) (r : Result Stamp SiteFault) (t : Store) (line : List ℕ)
    → IsSiteName n → PutsEntity (parsed schema) n s json r t → IsMade line (stamp_reply r) → length line ≤ 128
entity_put schema n s json (Ok stamp) t line named (p, stated, free, made) e =
    recorded n s (entity_name p.uid) (Some (canonical_text p)) stamp t line named made e
entity_put schema n s json (Err f) t line named h e = absurd (fault_made f line e)

policy_deleted : (n : List ℕ) (s : Store) (id : List ℕ) (r : Result Stamp SiteFault) (t : Store) (line : List ℕ)
    → IsSiteName n → DeletesPolicy n s id r t → IsMade line (stamp_reply r) → length line ≤ 128
policy_deleted n s id (Ok stamp) t line named (utf8, deletes) e =
    recorded n s (policy_name id) None stamp t line named deletes.1 e
policy_deleted n s id (Err f) t line named h e = absurd (fault_made f line e)

entity_deleted : (schema : StatedSchema) (n : List ℕ) (s : Store) (json : Option Data) (r : Result Stamp SiteFault) (t : Store) (line : List ℕ)
    → IsSiteName n → DeletesEntity (parsed schema) n s json r t → IsMade line (stamp_reply r) → length line ≤ 128
entity_deleted schema n s json (Ok stamp) t line named (uid, is, deletes) e =
    recorded n s (entity_name uid) None stamp t line named deletes.1 e
entity_deleted schema n s json (Err f) t line named h e = absurd (fault_made f line e)

step_fits : (schema : StatedSchema) (n : List ℕ) (s : Store) (i : Input) (r : Reply) (t : Store) (line : List ℕ)
    → IsSiteName n → IsChange (Ok i) → Step schema n s i r t → IsMade line (reported r) → length line ≤ 128
step_fits schema n s (input.PutPolicy id text) (told.Put r) t line named c h e = policy_put schema n s id text r t line named h e
step_fits schema n s (input.DeletePolicy id) (told.Stamped r) t line named c h e = policy_deleted n s id r t line named h e
step_fits schema n s (input.PutEntity body) (told.Stamped r) t line named c h e = entity_put schema n s (json_of body) r t line named h e
step_fits schema n s (input.DeleteEntity body) (told.Stamped r) t line named c h e = entity_deleted schema n s (json_of body) r t line named h e
step_fits schema n s (input.PutPolicy id text) _ t line named c h e = absurd h
step_fits schema n s (input.DeletePolicy id) _ t line named c h e = absurd h
step_fits schema n s (input.PutEntity body) _ t line named c h e = absurd h
step_fits schema n s (input.DeleteEntity body) _ t line named c h e = absurd h
step_fits schema n s _ r t line named c h e = absurd c

asked_fits : (old new : SiteView) (a : Asked) (line : List ℕ) → IsSiteName old.name → IsChange a
    → RepliesTo old a 200 line new → length line ≤ 128
asked_fits old new (Ok i) line named c (r, step, same, e) =
    step_fits (schema_of old) old.name (store_in old) i r (store_in new) line named c step e
asked_fits old new (Err s) line named c h = absurd c

-- ---- the line of a change that was made

short_told : (line : List ℕ) → length line ≤ 128 → stamp_tail 200 line ≡ stamped_end line
short_told line short =
    ap (λ (b : Bool). if b then stamped_end line else plain_tail 200) (le-leb (length line) 128 short)

change_tail : (a : Asked) (line : List ℕ) → IsChange a → length line ≤ 128 → tail_of a 200 line ≡ stamped_end line
change_tail (Ok (input.PutPolicy id text)) line c short = short_told line short
change_tail (Ok (input.DeletePolicy id)) line c short = short_told line short
change_tail (Ok (input.PutEntity body)) line c short = short_told line short
change_tail (Ok (input.DeleteEntity body)) line c short = short_told line short
change_tail _ line c short = absurd c

not_refused : (n : ℕ) → n ≡ 200 → n ≡ 503 → ⊥
not_refused n e f = omega (arith, e, f)

change_done : (a : Asked) (line : List ℕ) → IsChange a → IsUndone a 200 line → ⊥
change_done (Ok i) line c h = not_refused 200 refl h.0
change_done (Err s) line c h = absurd c

change_at : (a : Asked) (method target reply line : List ℕ) → IsChange a → length reply ≤ 128
    → (line ≡ head_text (text_of method) (text_of target) ++ tail_of a 200 reply)
    ⊎ ((line ≡ unread_line 200) × IsUndone a 200 reply)
    → line ≡ head_text (text_of method) (text_of target) ++ stamped_end reply
change_at a method target reply line c short (inl e) =
    e ∙ ap (λ (t : List ℕ). head_text (text_of method) (text_of target) ++ t) (change_tail a reply c short)
change_at a method target reply line c short (inr (e, undone)) = absurd (change_done a reply c undone)

pub change_told : (old new : SiteView) (method target body reply line : List ℕ) → IsSiteName old.name
    → IsChange (route_stated method target body) → answers old method target body 200 reply new
    → IsLogLine method target body 200 reply line
    → line ≡ head_text (text_of method) (text_of target) ++ stamped_end reply
change_told old new method target body reply line named c h is =
    change_at (route_stated method target body) method target reply line c
    (asked_fits old new (route_stated method target body) reply named c h) is

-- ---- replies without a line feed

stamp_free : (s : Stamp) → HasNoLineFeed (stamp_line s)
unfolding stamp_line
stamp_free s = compact_free (object
    (member (codes "count") (number (unsigned s.count))
    (member (codes "site") (string s.site) no_members)))

put_free : (s : Stamp) (impossible : Bool) → HasNoLineFeed (put_line s impossible)
unfolding put_line
put_free s impossible = compact_free (object
    (member (codes "count") (number (unsigned s.count))
    (member (codes "impossible") (boolean impossible)
    (member (codes "site") (string s.site) no_members))))

taken_free : (count : ℕ) → HasNoLineFeed (taken_line count)
unfolding taken_line
taken_free count = compact_free (object (member (codes "taken") (number (unsigned count)) no_members))

found_free : (text : List ℕ) (s : Stamp) → HasNoLineFeed (found_line text s)
unfolding found_line
found_free text s = compact_free (found_json text s)

fault_free : (code : ℕ) (place : Option Place) (within : Option ℕ) → HasNoLineFeed (fault_line code place within)
unfolding error_line
fault_free code place within = compact_free (refusal_json (record { code = code; place = place; within = within }))

site_fault_free : (f : SiteFault) → HasNoLineFeed (fault_reply f).1
site_fault_free f = fault_free (code_of f) (fault_place f) (within_of f)

-- a reply that is no message
abbrev IsNoMessage : Reply → Type 0
IsNoMessage (told.Written r) = ⊥
IsNoMessage _ = Unit {0}

reported_free : (r : Reply) → IsNoMessage r → HasNoLineFeed (reported r).1
unfolding answer_line
reported_free (told.Put (Ok put)) h = put_free put.stamp put.impossible
reported_free (told.Put (Err f)) h = site_fault_free f
reported_free (told.Stamped (Ok stamp)) h = stamp_free stamp
reported_free (told.Stamped (Err f)) h = site_fault_free f
reported_free (told.Taken (Ok (All count))) h = taken_free count
reported_free (told.Taken (Ok (Short count))) h = fault_free 1 (Some (position.Taken count)) None
reported_free (told.Taken (Err f)) h = site_fault_free f
reported_free (told.Answered (Ok answer)) h = compact_free (answer_json answer)
reported_free (told.Answered (Err f)) h = site_fault_free f
reported_free (told.Found (Ok (Some found))) h = found_free found.text found.stamp
reported_free (told.Found (Ok None)) h = site_fault_free fault.NotThere
reported_free (told.Found (Err f)) h = site_fault_free f
reported_free (told.Written r) h = absurd h

-- an input that does not ask for a message
abbrev AsksNoMessage : Input → Type 0
AsksNoMessage input.State = ⊥
AsksNoMessage input.Summary = ⊥
AsksNoMessage (input.Delta bytes) = ⊥
AsksNoMessage _ = Unit {0}

no_message : (schema : StatedSchema) (n : List ℕ) (s : Store) (i : Input) (r : Reply) (t : Store) → AsksNoMessage i
    → Step schema n s i r t → IsNoMessage r
no_message schema n s input.State (told.Written r) t c h = absurd c
no_message schema n s input.Summary (told.Written r) t c h = absurd c
no_message schema n s (input.Delta bytes) (told.Written r) t c h = absurd c
no_message schema n s i (told.Written r) t c h = absurd h
no_message schema n s i _ t c h = tt

input_free : (old new : SiteView) (i : Input) (status : StatusCode) (line : List ℕ) → AsksNoMessage i
    → Replies old i status line new → HasNoLineFeed line
input_free old new i status line c (r, step, same, e) =
    subst HasNoLineFeed (sym (ap (λ (p : StatusCode × List ℕ). p.1) e))
    (reported_free r (no_message (schema_of old) old.name (store_in old) i r (store_in new) c step))

-- ---- one line of each request that is served

served_made : (old new : SiteView) (i : Input) (status : StatusCode) (line : List ℕ)
    → Replies old i status line new → IsOneLine (made_tail i status line)
served_made old new (input.Authorize body) status line h =
    made_one (input.Authorize body) status line (input_free old new (input.Authorize body) status line tt h)
served_made old new (input.PutPolicy id text) status line h =
    made_one (input.PutPolicy id text) status line (input_free old new (input.PutPolicy id text) status line tt h)
served_made old new (input.DeletePolicy id) status line h =
    made_one (input.DeletePolicy id) status line (input_free old new (input.DeletePolicy id) status line tt h)
served_made old new (input.PutEntity body) status line h =
    made_one (input.PutEntity body) status line (input_free old new (input.PutEntity body) status line tt h)
served_made old new (input.DeleteEntity body) status line h =
    made_one (input.DeleteEntity body) status line (input_free old new (input.DeleteEntity body) status line tt h)
served_made old new _ status line h = plain_one status

served_tail : (old new : SiteView) (a : Asked) (status : StatusCode) (line : List ℕ)
    → RepliesTo old a status line new → IsOneLine (tail_of a status line)
served_tail old new (Ok i) status line h = input_one i status line (served_made old new i status line h)
served_tail old new (Err s) status line h = plain_one status

pub served_line : (old new : SiteView) (method target body : List ℕ) (status : StatusCode) (reply line : List ℕ)
    → answers old method target body status reply new → IsLogLine method target body status reply line → IsOneLine line
served_line old new method target body status reply line h (inl e) =
    log_line_one method target body status reply line
    (served_tail old new (route_stated method target body) status reply h) e
served_line old new method target body status reply line h (inr (e, undone)) = line_unread status line e
