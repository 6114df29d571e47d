use Rattle.std.proofs.Common.{ℕ, List, refl}
use Rattle.extensions.specs.declared.ip_net.Version.{Version}
use Rattle.extensions.specs.declared.ip_net.Version.TheVariants.{V4, V6}
use Rattle.extensions.specs.NetworkText.{IsAddressText}
use Rattle.extensions.proofs.address_texts.address_of_text.Goals as goal

-- neither version
neither : (text : List ℕ) → ((n : ℕ) → ¬ (IsAddressText V4 text n)) → ((n : ℕ) → ¬ (IsAddressText V6 text n)) → (v : Version) (n : ℕ) → ¬ (IsAddressText v text n)
neither text a b V4 n h = a n h
neither text a b V6 n h = b n h

pub returns-in_err-address-clause-none : goal.returns-in_err-address-clause-none
returns-in_err-address-clause-none c = λ _ v n h. neither c.args.text.now (c.in_default.ensures.none refl) (c.in_err-address.ensures.none refl) v n h
