-- Commands and look-ups whose name is given by bytes.
use Rattle.std.specs.Prelude.{◌≡◌, ℕ, List, Option, Some, option_map, Result, Ok, Err, IfOk, IfErr}
use Rattle.std.specs.Str.{IsUtf8}
use Rattle.std.proofs.Common.{sym, subst}
use Rattle.serde_json.specs.Data.{Data}
use Rattle.values.specs.declared.entity_uid.EntityUid.{EntityUid}
use Rattle.site_store.specs.stamped_store.declared.entry.Stamp.{Stamp}
use Rattle.site_store.specs.stamped_store.Store.{Store, policy_name, entity_name}
use Rattle.site.specs.declared.fault.SiteFault.{SiteFault}
use Rattle.site.specs.declared.fault.SiteFault.TheVariants as fault
use Rattle.site.specs.declared.reply.Found.{Found}
use Rattle.site.specs.Readings.{Readings}
use Rattle.site.specs.Runs.{Finds}
use Rattle.site.specs.Steps.{Deletes, DeletesPolicy, DeletesEntity, policy_found}

pub policy_deletes : (n : List ℕ) (s : Store) (id : List ℕ) (r : Result Stamp SiteFault) (t : Store) → IsUtf8 id
    → Deletes n s (policy_name id) r t → DeletesPolicy n s id r t
policy_deletes n s id (Err fault.NoMemory) t utf8 h = h
policy_deletes n s id (Err (fault.Policy f)) t utf8 h = absurd h
policy_deletes n s id r t utf8 h = (utf8, h)

pub entity_deletes : (R : Readings) (n : List ℕ) (s : Store) (json : Option Data) (uid : EntityUid)
    (r : Result Stamp SiteFault) (t : Store) → R.uid json (Some uid) → Deletes n s (entity_name uid) r t
    → DeletesEntity R n s json r t
entity_deletes R n s json uid (Err fault.NoMemory) t is h = h
entity_deletes R n s json uid (Err (fault.Entity f)) t is h = absurd h
entity_deletes R n s json uid r t is h = (uid, is, h)

pub finds : (s : Store) (id : List ℕ) (r : Result (Option Found) SiteFault) → IsUtf8 id
    → IfOk r (λ found. option_map (λ f. (f.text, f.stamp)) found ≡ policy_found s id)
    → IfErr r (λ f. f ≡ fault.NoMemory) → Finds s id r
finds s id (Ok found) utf8 h e = (utf8, h)
finds s id (Err f) utf8 h e = subst (λ (g : SiteFault). Finds s id (Err g)) (sym e) tt
