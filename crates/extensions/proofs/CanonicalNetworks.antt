-- A network's canonical text is a text of it, and a text is of one network at most.
use Rattle.std.proofs.Common.{◌≡◌, ℕ, ◌/◌, ◌%◌, ◌^◌, ◌<◌, ◌≤◌, List, [], ◌∷◌, ◌++◌, refl, sym, ◌∙◌, ap, subst, arith, append_assoc, inl, inr, lit≤}
use Rattle.std.proofs.lemmas.List.{append-nil}
use Rattle.std.specs.Fmt.{decimal}
use Rattle.std.specs.Int.{from_be_bytes, w32, w128}
use Rattle.std.proofs.lemmas.Fmt.{decimal_is_IsNumeral, decimal_injective}
use Rattle.std.specs.Net.Text.{dotted_text}
use Rattle.std.specs.Net.Grammar.{IsDotted}
use Rattle.std.specs.Net.Addr.{ipv4_octets, ipv4_bits, ipv6_segments, ipv6_bits, octets_of}
use Rattle.extensions.specs.declared.ip_net.Version.{Version}
use Rattle.extensions.specs.declared.ip_net.Version.TheVariants.{V4, V6}
use Rattle.extensions.specs.Network.{Network, IsNetwork, width}
use Rattle.extensions.specs.NetworkText.{IsAddressText, IsNetworkText, network_text, ipv4_text, address_text}
use Rattle.extensions.proofs.Lacks.{Lacks}
use Rattle.extensions.proofs.ReadTexts.{IsReadText, text_read}
use Rattle.extensions.proofs.OneGroups.{one_colon_hex}
use Rattle.extensions.proofs.AddressTexts.{lacks_slash, lacks_not, one_version}
use Rattle.extensions.proofs.CanonicalGroups.{ipv6_reads_back}
use Rattle.extensions.proofs.SignedTexts.{cut_once}

ipv4_reads_back : (n : ℕ) → n < 2 ^ 32 → IsAddressText V4 (ipv4_text n) n
ipv4_reads_back n h = record {
  a = n / 2 ^ 24 % 256;
  b = n / 2 ^ 16 % 256;
  c = n / 2 ^ 8 % 256;
  d = n % 256;
  fit = (omega arith, omega arith, omega arith, omega arith);
  spelled = refl;
  value = omega arith;
}

pub address_reads_back : (v : Version) (n : ℕ) → n < 2 ^ width v → IsAddressText v (address_text v n) n
address_reads_back V4 n h = ipv4_reads_back n h
address_reads_back V6 n h = ipv6_reads_back n h

pub network_reads_back : (n : Network) → IsNetwork n → IsNetworkText (network_text n) n
network_reads_back n h = record {
  address_text = address_text n.version n.address;
  prefix_text = 47 ∷ decimal n.prefix;
  spelled = append_assoc (address_text n.version n.address) (47 ∷ []) (decimal n.prefix);
  address = address_reads_back n.version n.address h.address_fits;
  prefix = inr (refl, h.prefix_fits);
}

-- two numbers in front of a dot
one_number : (m n : ℕ) (ys ws : List ℕ) → m < 256 → n < 256 → decimal m ++ (46 ∷ ys) ≡ decimal n ++ (46 ∷ ws) → (m ≡ n) × (ys ≡ ws)
one_number m n ys ws hm hn e =
    let same = cut_once (decimal m) (decimal n) ys ws (decimal_is_IsNumeral m (omega arith)).0.1 (decimal_is_IsNumeral n (omega arith)).0.1 e in
    (decimal_injective m n (omega arith) (omega arith) same.0, same.1)

dotted : (a b c d : ℕ) → dotted_text a b c d ≡ decimal a ++ (46 ∷ (decimal b ++ (46 ∷ (decimal c ++ (46 ∷ decimal d)))))
dotted a b c d = simp append_assoc

one_dotted : (text xs ys : List ℕ) → IsDotted text xs → IsDotted text ys → xs ≡ ys
one_dotted text xs ys s t =
    let e = sym (dotted s.a s.b s.c s.d) ∙ sym s.spelled ∙ t.spelled ∙ dotted t.a t.b t.c t.d in
    let first = one_number s.a t.a _ _ s.fit.0 t.fit.0 e in
    let second = one_number s.b t.b _ _ s.fit.1 t.fit.1 first.1 in
    let third = one_number s.c t.c _ _ s.fit.2 t.fit.2 second.1 in
    let fourth = decimal_injective s.d t.d (let f = s.fit.3 in omega arith) (let f = t.fit.3 in omega arith) third.1 in
    s.value ∙ (rw (first.0, second.0, third.0, fourth) (sym t.value))

one_ipv4 : (text : List ℕ) (m n : ℕ) → IsReadText V4 text m → IsReadText V4 text n → m ≡ n
unfolding ipv4_bits
one_ipv4 text m n g h = let same = one_dotted text (ipv4_octets g.0) (ipv4_octets h.0) g.1 h.1 in g.2 ∙ ap (λ (xs : List ℕ). from_be_bytes w32 xs) same ∙ sym h.2

one_ipv6 : (text : List ℕ) (m n : ℕ) → IsReadText V6 text m → IsReadText V6 text n → m ≡ n
unfolding ipv6_bits
one_ipv6 text m n g h =
    let same = one_colon_hex text (ipv6_segments g.0) (ipv6_segments h.0) g.2 g.1 h.1 in
    g.3 ∙ ap (λ (xs : List ℕ). from_be_bytes w128 (octets_of xs)) same ∙ sym h.3

one_number_of : (v : Version) (text : List ℕ) (m n : ℕ) → IsAddressText v text m → IsAddressText v text n → m ≡ n
one_number_of V4 text m n g h = one_ipv4 text m n (text_read V4 text m g) (text_read V4 text n h)
one_number_of V6 text m n g h = one_ipv6 text m n (text_read V6 text m g) (text_read V6 text n h)

-- a text without a prefix is of one address
one_address : (v w : Version) (text : List ℕ) (m n : ℕ) → IsAddressText v text m → IsAddressText w text n → (v ≡ w) × (m ≡ n)
one_address v w text m n g h =
    let same = one_version v w text m n g h in
    (same, one_number_of w text m n (subst (λ (u : Version). IsAddressText u text m) same g) h)

-- a text is cut at its first slash in one way
cut_at_slash : (xs zs ys ws : List ℕ) → Lacks 47 xs → Lacks 47 zs → xs ++ (47 ∷ ys) ≡ zs ++ (47 ∷ ws) → (xs ≡ zs) × (ys ≡ ws)
cut_at_slash [] [] ys ws lx lz e = (refl, cc)
cut_at_slash [] (z ∷ zs) ys ws lx lz e = let same : z ≡ 47 = cc in absurd (lz.0 same)
cut_at_slash (x ∷ xs) [] ys ws lx lz e = let same : x ≡ 47 = cc in absurd (lx.0 same)
cut_at_slash (x ∷ xs) (z ∷ zs) ys ws lx lz e =
    let tail : xs ++ (47 ∷ ys) ≡ zs ++ (47 ∷ ws) = cc in
    let same = cut_at_slash xs zs ys ws lx.1 lz.1 tail in
    (let front = same.0 in let head : x ≡ z = cc in cc, same.1)

width_le : (v : Version) → width v ≤ 128
width_le V4 = lit≤ tt
width_le V6 = lit≤ tt

-- the parts of a text of a network
bare : (text address more : List ℕ) → text ≡ address ++ more → more ≡ [] → text ≡ address
bare text address more e none = e ∙ ap (λ (xs : List ℕ). address ++ xs) none ∙ append-nil address

same_network : (m n : Network) → (m.version ≡ n.version) × (m.address ≡ n.address) → m.prefix ≡ n.prefix → m ≡ n
same_network m n h p i = record { version = h.0 i; address = h.1 i; prefix = p i }

module _ (text : List ℕ) (m n : Network) (s : IsNetworkText text m) (t : IsNetworkText text n) where
  slash_m : Lacks 47 s.address_text
  slash_m = lacks_slash m.version s.address_text m.address s.address

  slash_n : Lacks 47 t.address_text
  slash_n = lacks_slash n.version t.address_text n.address t.address

  addresses : s.address_text ≡ t.address_text → (m.version ≡ n.version) × (m.address ≡ n.address)
  addresses e = one_address m.version n.version t.address_text m.address n.address (subst (λ (xs : List ℕ). IsAddressText m.version xs m.address) e s.address) t.address

  both_bare : s.prefix_text ≡ [] → t.prefix_text ≡ [] → m.prefix ≡ width m.version → n.prefix ≡ width n.version → m ≡ n
  both_bare p q k l =
      let same = addresses (sym (bare text s.address_text s.prefix_text s.spelled p) ∙ bare text t.address_text t.prefix_text t.spelled q) in
      same_network m n same (k ∙ ap width same.0 ∙ sym l)

  both_cut : s.prefix_text ≡ 47 ∷ decimal m.prefix → t.prefix_text ≡ 47 ∷ decimal n.prefix → m.prefix ≤ width m.version → n.prefix ≤ width n.version → m ≡ n
  both_cut p q k l =
      let cut = cut_at_slash s.address_text t.address_text (decimal m.prefix) (decimal n.prefix) slash_m slash_n
      (sym (ap (λ (xs : List ℕ). s.address_text ++ xs) p) ∙ sym s.spelled ∙ t.spelled ∙ ap (λ (xs : List ℕ). t.address_text ++ xs) q) in
      let wide = width_le m.version in
      let broad = width_le n.version in
      same_network m n (addresses cut.0) (decimal_injective m.prefix n.prefix (omega arith) (omega arith) cut.1)

  pub one_network : m ≡ n
  one_network = elim s.prefix [
    | inl p ↦ elim t.prefix [
      | inl q ↦ both_bare p.0 q.0 p.1 q.1
      | inr q ↦ absurd (lacks_not 47 text t.address_text (decimal n.prefix) (t.spelled ∙ ap (λ (xs : List ℕ). t.address_text ++ xs) q.0)
          (subst (Lacks 47) (sym (bare text s.address_text s.prefix_text s.spelled p.0)) slash_m))
    ]
    | inr p ↦ elim t.prefix [
      | inl q ↦ absurd (lacks_not 47 text s.address_text (decimal m.prefix) (s.spelled ∙ ap (λ (xs : List ℕ). s.address_text ++ xs) p.0)
          (subst (Lacks 47) (sym (bare text t.address_text t.prefix_text t.spelled q.0)) slash_n))
      | inr q ↦ both_cut p.0 q.0 p.1 q.1
    ]
  ]
