-- The text of a state or delta is read as the updates that it was written from.
use Rattle.std.proofs.Common.{◌≡◌, List, [], ◌∷◌, ℕ, map, Ok, Option, Some, None, true, refl, arith}
use Rattle.std.specs.Prelude.{codes}
use Rattle.std.specs.Str.{IsUtf8}
use Rattle.serde_json.specs.View.{items_of}
use Rattle.serde_json.specs.Written.{compact_text}
use Rattle.json_words.specs.Plain.{IsPlain, ArePlain, CompactReadsBack}
use Rattle.stamped_store.specs.Store.{Store, Update, updates}
use Rattle.stamped_store.specs.SiteNames.{SiteTestIsExact, SiteNamesAreTexts}
use Rattle.sync_format.specs.Summaries.{IsStamped}
use Rattle.json_words.proofs.CompactUtf8.{key_is_utf8, json_again}
use Rattle.sync_format.proofs.OneText.{plain_name}
use Rattle.sync_format.specs.Messages.{body_json, entry_json, message_json, state_text, delta_text, is_kind}
use Rattle.sync_format.specs.Messages.{updates_stated}
use Rattle.sync_format.specs.Texts.{IsBodyText, IsText, AreTexts}
use Rattle.sync_format.specs.Updates.{AreInRange, stamped}
use Rattle.sync_format.proofs.Written.{NamesBack, message_again, depth_message, stated_back}

plain_body : (b : Option (List ℕ)) → IsBodyText b → IsPlain (body_json b)
plain_body None h = tt
plain_body (Some text) h = h

one_is_plain : SiteNamesAreTexts → (u : Update) → IsStamped (stamped u) → IsText u → IsPlain (entry_json u)
one_is_plain sites u h texts = (
  key_is_utf8 (codes "body") refl,
  plain_body u.1.body texts.body,
  (refl, (refl, (refl, tt))),
  (
    key_is_utf8 (codes "count") refl,
    omega (arith, h.bounded),
    (refl, (refl, tt)),
    (
      key_is_utf8 (codes "name") refl,
      plain_name u.0 texts.name,
      (refl, tt),
      (key_is_utf8 (codes "site") refl, sites u.1.site h.site, tt, tt),
    ),
  ),
)

all_are_plain : SiteNamesAreTexts → (us : List Update) → AreInRange us → AreTexts us → ArePlain (items_of (map entry_json us))
all_are_plain sites [] h texts = tt
all_are_plain sites (u ∷ us) h texts = (one_is_plain sites u h.0 texts.0, all_are_plain sites us h.1 texts.1)

plain_message : SiteNamesAreTexts → (kind label : List ℕ) (us : List Update) → IsUtf8 kind → IsUtf8 label → AreInRange us → AreTexts us → IsPlain (message_json kind label us)
plain_message sites kind label us of_kind of_label h texts = (
  key_is_utf8 (codes "entries") refl,
  all_are_plain sites us h texts,
  (refl, (refl, (refl, tt))),
  (
    key_is_utf8 (codes "kind") refl,
    of_kind,
    (refl, (refl, tt)),
    (
      key_is_utf8 (codes "schema") refl,
      of_label,
      (refl, tt),
      (key_is_utf8 (codes "version") refl, omega arith, tt, tt),
    ),
  ),
)

-- theorems of lower crates
pub record AreLaws : Type 0 where
  pub names : NamesBack
  pub tested : SiteTestIsExact
  pub sites : SiteNamesAreTexts
  pub texts : CompactReadsBack

text_back : AreLaws → (kind label : List ℕ) (us : List Update) → is_kind kind ≡ true → IsUtf8 kind → IsUtf8 label → AreInRange us → AreTexts us
    → updates_stated label (compact_text (message_json kind label us)) ≡ Ok us
text_back laws kind label us is of_kind of_label h texts =
    let json = message_json kind label us in
    stated_back (compact_text json) label us json
    (json_again laws.texts json (plain_message laws.sites kind label us of_kind of_label h texts) (depth_message kind label us))
    (message_again laws.names laws.tested kind label us is h)

pub state_back : AreLaws → (label : List ℕ) (s : Store) → IsUtf8 label → AreInRange (updates s) → AreTexts (updates s) → updates_stated label (state_text label s) ≡ Ok (updates s)
unfolding state_text
state_back laws label s of_label h texts = text_back laws (codes "state") label (updates s) refl (key_is_utf8 (codes "state") refl) of_label h texts

pub delta_back : AreLaws → (label : List ℕ) (s : Store) → IsUtf8 label → AreInRange (updates s) → AreTexts (updates s) → updates_stated label (delta_text label s) ≡ Ok (updates s)
unfolding delta_text
delta_back laws label s of_label h texts = text_back laws (codes "delta") label (updates s) refl (key_is_utf8 (codes "delta") refl) of_label h texts
