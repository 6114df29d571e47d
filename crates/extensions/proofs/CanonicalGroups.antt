-- An IPv6 address's canonical text is a text of it.
use Rattle.std.proofs.Common.{◌≡◌, ℕ, suc, zero, ◌+◌, ◌*◌, ◌/◌, ◌%◌, ◌^◌, ◌<◌, ◌≤◌, List, [], ◌∷◌, ◌++◌, length, refl, sym, ◌∙◌, arith, append_assoc, lit≤, lit<, inl, inr, true, false, ◌==◌}
use Rattle.std.specs.Int.{from_be_bytes, w128}
use Rattle.std.specs.Fmt.{digits, digits_onto, digit_glyph}
use Rattle.std.specs.Char.{digit_value}
use Rattle.std.specs.Net.Addr.{octets_of, ipv6_bits}
use Rattle.std.specs.Net.Grammar.{IsGroup, IsGroupsAfter, IsColonHex}
use Rattle.std.proofs.lemmas.Fmt.{digits_is_IsNumeral}
use Rattle.std.proofs.lemmas.Nat.{div_below}
use Rattle.std.proofs.lemmas.List.{append-nil}
use Rattle.std.proofs.lemmas.Bool.{cases_Bool, eqb-false}
use Rattle.std.proofs.Math.Nat.{pow-suc}
use Rattle.extensions.specs.declared.ip_net.Version.TheVariants.{V6}
use Rattle.extensions.specs.NetworkText.{IsAddressText, ipv6_text}
use Rattle.extensions.proofs.Lacks.{Lacks, lacks_both, lacks_digits}
use Rattle.extensions.proofs.ReadTexts.{IsReadText, read_text}

value_of_groups : (a b c d e f g h : ℕ) → from_be_bytes w128 (octets_of (a ∷ b ∷ c ∷ d ∷ e ∷ f ∷ g ∷ h ∷ [])) ≡
    (((a * 65536 + b) * 65536 + c) * 65536 + d) * 2 ^ 64 + (((e * 65536 + f) * 65536 + g) * 65536 + h)
value_of_groups a b c d e f g h = omega arith

four_groups : (m : ℕ) → ((m / 2 ^ 48 * 65536 + m / 2 ^ 32 % 65536) * 65536 + m / 2 ^ 16 % 65536) * 65536 + m % 65536 ≡ m
four_groups m = omega arith

halves : (n : ℕ) → n / 2 ^ 64 * 2 ^ 64 + n % 2 ^ 64 ≡ n
halves n = omega arith

short_onto : (k j n : ℕ) (acc : List ℕ) → n < 16 ^ suc j → length (digits_onto k 16 false n acc) ≤ suc j + length acc
short_onto zero j n acc h = omega arith
short_onto (suc k) zero n acc h = elim (cases_Bool (n / 16 == 0)) [
  | inl here ↦ rw here (omega arith)
  | inr more ↦ absurd (eqb-false (n / 16) 0 more (omega arith))
]
short_onto (suc k) (suc i) n acc h = elim (cases_Bool (n / 16 == 0)) [
  | inl here ↦ rw here (omega arith)
  | inr more ↦ rw more
      (let power = pow-suc 16 (suc i) in
      let fewer = short_onto k i (n / 16) (digit_glyph false (n % 16) ∷ acc) (div_below n 16 (16 ^ suc i) (lit< tt) (omega arith)) in omega arith)
]

short : (n : ℕ) → n < 65536 → length (digits 16 false n) ≤ 4
unfolding digits
short n h = short_onto 64 3 n [] h

is_group : (n : ℕ) → n < 65536 → IsGroup (digits 16 false n) n
is_group n h = (digits_is_IsNumeral 16 false (lit≤ tt) (lit≤ tt) n (omega arith), short n h)

-- groups, each after a colon
rest_text : List ℕ → List ℕ
rest_text [] = []
rest_text (s ∷ segments) = 58 ∷ (digits 16 false s ++ rest_text segments)

Below : List ℕ → Type 0
Below [] = Unit {0}
Below (s ∷ segments) = (s < 65536) × Below segments

rest_is : (segments : List ℕ) → Below segments → IsGroupsAfter true (58 ∷ []) (rest_text segments) segments
unfolding Below rest_text
rest_is [] h = refl
rest_is (s ∷ segments) h = inl (digits 16 false s, rest_text segments, refl, is_group s h.0, rest_is segments h.1)

no_dot_16 : ¬ (digit_value 46 < 16)
no_dot_16 h = omega (arith, h)

group_lacks : (n : ℕ) → n < 65536 → Lacks 46 (digits 16 false n)
group_lacks n h = lacks_digits 16 46 (digits 16 false n) no_dot_16 (is_group n h).0.0.1

no_dot : Lacks 46 (58 ∷ [])
no_dot = (λ e. omega (arith, e), tt)

rest_lacks : (segments : List ℕ) → Below segments → Lacks 46 (rest_text segments)
unfolding Below rest_text
rest_lacks [] h = tt
rest_lacks (s ∷ segments) h = lacks_both 46 (58 ∷ []) (digits 16 false s ++ rest_text segments) no_dot (lacks_both 46 (digits 16 false s) (rest_text segments) (group_lacks s h.0) (rest_lacks segments h.1))

-- eight groups with colons between them
eight : (a b c d e f g h : ℕ) →
    digits 16 false a ++ (58 ∷ []) ++ digits 16 false b ++ (58 ∷ []) ++ digits 16 false c ++ (58 ∷ []) ++ digits 16 false d ++ (58 ∷ [])
    ++ (digits 16 false e ++ (58 ∷ []) ++ digits 16 false f ++ (58 ∷ []) ++ digits 16 false g ++ (58 ∷ []) ++ digits 16 false h)
    ≡ digits 16 false a ++ rest_text (b ∷ c ∷ d ∷ e ∷ f ∷ g ∷ h ∷ [])
unfolding rest_text
eight a b c d e f g h = simp (append_assoc, append-nil)

module _ (a b c d e f g h : ℕ) (first : a < 65536) (others : Below (b ∷ c ∷ d ∷ e ∷ f ∷ g ∷ h ∷ [])) where
  groups_are : IsColonHex (digits 16 false a ++ rest_text (b ∷ c ∷ d ∷ e ∷ f ∷ g ∷ h ∷ [])) (a ∷ b ∷ c ∷ d ∷ e ∷ f ∷ g ∷ h ∷ [])
  groups_are = inl (inl (digits 16 false a, rest_text (b ∷ c ∷ d ∷ e ∷ f ∷ g ∷ h ∷ []), refl, is_group a first, rest_is (b ∷ c ∷ d ∷ e ∷ f ∷ g ∷ h ∷ []) others), refl)

  groups_read : (text : List ℕ) → text ≡ digits 16 false a ++ rest_text (b ∷ c ∷ d ∷ e ∷ f ∷ g ∷ h ∷ []) → (n : ℕ) →
      n ≡ (((a * 65536 + b) * 65536 + c) * 65536 + d) * 2 ^ 64 + (((e * 65536 + f) * 65536 + g) * 65536 + h) → IsReadText V6 text n
  unfolding ipv6_bits
  groups_read text t n v = (
    record { segments = a ∷ b ∷ c ∷ d ∷ e ∷ f ∷ g ∷ h ∷ [] },
    rw t groups_are,
    rw t (lacks_both 46 (digits 16 false a) (rest_text (b ∷ c ∷ d ∷ e ∷ f ∷ g ∷ h ∷ [])) (group_lacks a first) (rest_lacks (b ∷ c ∷ d ∷ e ∷ f ∷ g ∷ h ∷ []) others)),
    v ∙ sym (value_of_groups a b c d e f g h),
  )

pub ipv6_reads_back : (n : ℕ) → n < 2 ^ 128 → IsAddressText V6 (ipv6_text n) n
unfolding Below
ipv6_reads_back n small =
    let high = n / 2 ^ 64 in
    let low = n % 2 ^ 64 in
    read_text V6 (ipv6_text n) n (groups_read (high / 2 ^ 48) (high / 2 ^ 32 % 65536) (high / 2 ^ 16 % 65536) (high % 65536)
    (low / 2 ^ 48) (low / 2 ^ 32 % 65536) (low / 2 ^ 16 % 65536) (low % 65536)
    (omega arith) (omega arith, (omega arith, (omega arith, (omega arith, (omega arith, (omega arith, (omega arith, tt)))))))
    (ipv6_text n) (eight (high / 2 ^ 48) (high / 2 ^ 32 % 65536) (high / 2 ^ 16 % 65536) (high % 65536)
    (low / 2 ^ 48) (low / 2 ^ 32 % 65536) (low / 2 ^ 16 % 65536) (low % 65536)) n
    (sym (rw (four_groups high, four_groups low) (halves n))))
