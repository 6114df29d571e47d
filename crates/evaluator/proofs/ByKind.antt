-- Values by kind: those of one kind, and the others.
use Rattle.std.specs.Prelude.{◌≡◌, ℕ, ℤ, List, Bool, None, refl}
use Rattle.values.specs.extensions.Network.{Network}
use Rattle.values.specs.declared.entity_uid.EntityUid.{EntityUid}
use Rattle.values.specs.Values.{PlainValue, PlainValues, boolean, long, text, entity, set, record_of, decimal, ipaddr}
use Rattle.evaluator.specs.Outcomes.{boolean_in, long_in, text_in, entity_uid_in, members_in, decimal_in, network_in}

module _ (P : PlainValue → Type 0) where
  pub boolean_cases : ((b : Bool) → P (boolean b)) → ((v : PlainValue) → boolean_in v ≡ None → P v) → (v : PlainValue) → P v
  boolean_cases its other (boolean b) = its b
  boolean_cases its other (long z) = other (long z) refl
  boolean_cases its other (text t) = other (text t) refl
  boolean_cases its other (entity u) = other (entity u) refl
  boolean_cases its other (set vs) = other (set vs) refl
  boolean_cases its other (record_of fs) = other (record_of fs) refl
  boolean_cases its other (decimal z) = other (decimal z) refl
  boolean_cases its other (ipaddr n) = other (ipaddr n) refl

  pub long_cases : ((z : ℤ) → P (long z)) → ((v : PlainValue) → long_in v ≡ None → P v) → (v : PlainValue) → P v
  long_cases its other (boolean b) = other (boolean b) refl
  long_cases its other (long z) = its z
  long_cases its other (text t) = other (text t) refl
  long_cases its other (entity u) = other (entity u) refl
  long_cases its other (set vs) = other (set vs) refl
  long_cases its other (record_of fs) = other (record_of fs) refl
  long_cases its other (decimal z) = other (decimal z) refl
  long_cases its other (ipaddr n) = other (ipaddr n) refl

  pub text_cases : ((t : List ℕ) → P (text t)) → ((v : PlainValue) → text_in v ≡ None → P v) → (v : PlainValue) → P v
  text_cases its other (boolean b) = other (boolean b) refl
  text_cases its other (long z) = other (long z) refl
  text_cases its other (text t) = its t
  text_cases its other (entity u) = other (entity u) refl
  text_cases its other (set vs) = other (set vs) refl
  text_cases its other (record_of fs) = other (record_of fs) refl
  text_cases its other (decimal z) = other (decimal z) refl
  text_cases its other (ipaddr n) = other (ipaddr n) refl

  pub entity_cases : ((u : EntityUid) → P (entity u)) → ((v : PlainValue) → entity_uid_in v ≡ None → P v) → (v : PlainValue) → P v
  entity_cases its other (boolean b) = other (boolean b) refl
  entity_cases its other (long z) = other (long z) refl
  entity_cases its other (text t) = other (text t) refl
  entity_cases its other (entity u) = its u
  entity_cases its other (set vs) = other (set vs) refl
  entity_cases its other (record_of fs) = other (record_of fs) refl
  entity_cases its other (decimal z) = other (decimal z) refl
  entity_cases its other (ipaddr n) = other (ipaddr n) refl

  pub members_cases : ((vs : PlainValues) → P (set vs)) → ((v : PlainValue) → members_in v ≡ None → P v) → (v : PlainValue) → P v
  members_cases its other (boolean b) = other (boolean b) refl
  members_cases its other (long z) = other (long z) refl
  members_cases its other (text t) = other (text t) refl
  members_cases its other (entity u) = other (entity u) refl
  members_cases its other (set vs) = its vs
  members_cases its other (record_of fs) = other (record_of fs) refl
  members_cases its other (decimal z) = other (decimal z) refl
  members_cases its other (ipaddr n) = other (ipaddr n) refl

  pub decimal_cases : ((z : ℤ) → P (decimal z)) → ((v : PlainValue) → decimal_in v ≡ None → P v) → (v : PlainValue) → P v
  decimal_cases its other (boolean b) = other (boolean b) refl
  decimal_cases its other (long z) = other (long z) refl
  decimal_cases its other (text t) = other (text t) refl
  decimal_cases its other (entity u) = other (entity u) refl
  decimal_cases its other (set vs) = other (set vs) refl
  decimal_cases its other (record_of fs) = other (record_of fs) refl
  decimal_cases its other (decimal z) = its z
  decimal_cases its other (ipaddr n) = other (ipaddr n) refl

  pub network_cases : ((n : Network) → P (ipaddr n)) → ((v : PlainValue) → network_in v ≡ None → P v) → (v : PlainValue) → P v
  network_cases its other (boolean b) = other (boolean b) refl
  network_cases its other (long z) = other (long z) refl
  network_cases its other (text t) = other (text t) refl
  network_cases its other (entity u) = other (entity u) refl
  network_cases its other (set vs) = other (set vs) refl
  network_cases its other (record_of fs) = other (record_of fs) refl
  network_cases its other (decimal z) = other (decimal z) refl
  network_cases its other (ipaddr n) = its n
