-- A summary's text is read as the summary, and two summaries with one text are equal.
use Rattle.std.proofs.Common.{◌≡◌, ◌∙◌, ℕ, List, [], ◌∷◌, map, Result, Ok, refl, sym, ap, arith}
use Rattle.std.specs.Prelude.{codes}
use Rattle.std.specs.Str.{IsUtf8}
use Rattle.json_words.specs.Plain.{IsPlain, ArePlain, CompactIsOne, CompactReadsBack}
use Rattle.serde_json.specs.View.{items_of}
use Rattle.serde_json.specs.Written.{compact_text}
use Rattle.values.specs.Paths.{PathTestIsExact}
use Rattle.values.specs.declared.name.Name.{Name}
use Rattle.values.specs.declared.name.Name.TheVariants.{Policy, Entity}
use Rattle.stamped_store.specs.declared.entry.Stamp.{Stamp}
use Rattle.stamped_store.specs.Deltas.{Summary}
use Rattle.stamped_store.specs.SiteNames.{SiteTestIsExact, SiteNamesAreTexts}
use Rattle.sync_format.specs.declared.fault.MessageFault.{MessageFault}
use Rattle.sync_format.specs.Summaries.{IsStamped, AreStamped, HasTexts, HaveTexts, IsWritten, name_json, stamp_json}
use Rattle.sync_format.specs.Summaries.{summary_json, summary_text, summary_in, summary_stated}
use Rattle.json_words.proofs.CompactUtf8.{key_is_utf8, json_again}
use Rattle.sync_format.proofs.RoundTrip.{summary_again, depth_summary, stated_back}

pub plain_name : (n : Name) → HasTexts n → IsPlain (name_json n)
plain_name (Policy id) h = (key_is_utf8 (codes "policy") refl, h, tt, tt)
plain_name (Entity uid) h = (
  key_is_utf8 (codes "entity") refl,
  (key_is_utf8 (codes "id") refl, h.1, (refl, tt), (key_is_utf8 (codes "type") refl, h.0, tt, tt)),
  tt,
  tt,
)

plain_stamp : SiteNamesAreTexts → (u : Name × Stamp) → IsStamped u → HasTexts u.0 → IsPlain (stamp_json u)
plain_stamp sites u h texts = (
  key_is_utf8 (codes "count") refl,
  omega (arith, h.bounded),
  (refl, (refl, tt)),
  (
    key_is_utf8 (codes "name") refl,
    plain_name u.0 texts,
    (refl, tt),
    (key_is_utf8 (codes "site") refl, sites u.1.site h.site, tt, tt),
  ),
)

plain_stamps : SiteNamesAreTexts → (m : Summary) → AreStamped m → HaveTexts m → ArePlain (items_of (map stamp_json m))
plain_stamps sites [] h texts = tt
plain_stamps sites (u ∷ m) h texts = (plain_stamp sites u h.0 texts.0, plain_stamps sites m h.1 texts.1)

plain_summary : SiteNamesAreTexts → (label : List ℕ) (m : Summary) → IsUtf8 label → AreStamped m → HaveTexts m → IsPlain (summary_json label m)
plain_summary sites label m is h texts = (
  key_is_utf8 (codes "kind") refl,
  key_is_utf8 (codes "summary") refl,
  (refl, (refl, (refl, tt))),
  (
    key_is_utf8 (codes "schema") refl,
    is,
    (refl, (refl, tt)),
    (
      key_is_utf8 (codes "stamps") refl,
      plain_stamps sites m h texts,
      (refl, tt),
      (key_is_utf8 (codes "version") refl, omega arith, tt, tt),
    ),
  ),
)

pub text_again : PathTestIsExact → SiteTestIsExact → SiteNamesAreTexts → CompactReadsBack → (label : List ℕ) (m : Summary) → IsUtf8 label → IsWritten m
    → summary_stated label (summary_text label m) ≡ Ok m
unfolding summary_text
text_again told tested sites back label m is h =
    let json = summary_json label m in
    stated_back label (compact_text json) m json refl (json_again back json (plain_summary sites label m is h.stamped h.texts))
    (summary_again told tested label m h.stamped h.ascending)

done : Summary → Result Summary MessageFault
done m = Ok m

ok_is : (m n : Summary) → done m ≡ done n → m ≡ n
unfolding done
ok_is m n h = cc

pub one_text : PathTestIsExact → SiteTestIsExact → SiteNamesAreTexts → CompactIsOne → (label : List ℕ) (m n : Summary) → IsUtf8 label → IsWritten m → IsWritten n → summary_text label m ≡ summary_text label n → m ≡ n
unfolding summary_text done
one_text told tested sites compact_one label m n is h k same =
    let json : summary_json label m ≡ summary_json label n =
    compact_one (summary_json label m) (summary_json label n) (plain_summary sites label m is h.stamped h.texts) (plain_summary sites label n is k.stamped k.texts) (depth_summary label m) (depth_summary label n) same in
    ok_is m n (sym (summary_again told tested label m h.stamped h.ascending) ∙ ap (summary_in label) json ∙ summary_again told tested label n k.stamped k.ascending)
