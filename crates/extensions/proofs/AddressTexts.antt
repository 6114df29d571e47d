-- Which characters stand in the text of an address.
use Rattle.std.proofs.Common.{◌≡◌, ℕ, ◌<◌, ◌≤◌, ◌≢◌, inl, inr, Bool, true, false, List, [], ◌∷◌, ◌++◌, length, get_or, refl, sym, ◌∙◌, ap, subst, arith, lit<, Some, None}
use Rattle.std.specs.Fmt.{decimal}
use Rattle.std.specs.Char.{digit_value}
use Rattle.std.specs.Str.Parse.{IsNumeral}
use Rattle.std.proofs.lemmas.Fmt.{decimal_is_IsNumeral, first_decimal, decimal_digit}
use Rattle.std.proofs.lemmas.Str.Parse.{digit_at}
use Rattle.std.proofs.lemmas.Bool.{cases_lt}
use Rattle.std.proofs.lemmas.List.{append-nil}
use Rattle.std.proofs.lemmas.Str.Pattern.{IsSplitOnceResult, split_after, split_parts}
use Rattle.std.specs.Net.Grammar.{IsDotted, IsGroupsAfter, IsElided, IsColonHex}
use Rattle.extensions.specs.declared.ip_net.Version.{Version}
use Rattle.extensions.specs.declared.ip_net.Version.TheVariants.{V4, V6}
use Rattle.extensions.specs.Network.{Network, width}
use Rattle.extensions.specs.NetworkText.{IsAddressText, IsNetworkText}
use Rattle.extensions.proofs.Lacks.{Lacks, lacks_both, lacks_back, lacks_at, lacks_digits}
use Rattle.extensions.proofs.ReadTexts.{text_read, has_dot}
use denote.Ref.{Bor}

no_slash_10 : ¬ (digit_value 47 < 10)
no_slash_10 h = omega (arith, h)

no_slash_16 : ¬ (digit_value 47 < 16)
no_slash_16 h = omega (arith, h)

lacks_decimal : (n : ℕ) → n < 256 → Lacks 47 (decimal n)
lacks_decimal n h = lacks_digits 10 47 (decimal n) no_slash_10 (decimal_is_IsNumeral n (omega arith)).0.1

one_other : (c x : ℕ) → x ≢ c → Lacks c (x ∷ [])
one_other c x h = (h, tt)

dot : Lacks 47 (46 ∷ [])
dot = one_other 47 46 (λ e. cc)

lacks_dotted : (text octets : List ℕ) → IsDotted text octets → Lacks 47 text
lacks_dotted text octets h =
    rw h.spelled
    (lacks_both 47 _ (decimal h.d)
    (lacks_both 47 _ (46 ∷ [])
    (lacks_both 47 _ (decimal h.c)
    (lacks_both 47 _ (46 ∷ [])
    (lacks_both 47 _ (decimal h.b)
    (lacks_both 47 (decimal h.a) (46 ∷ []) (lacks_decimal h.a h.fit.0) dot)
    (lacks_decimal h.b h.fit.1)) dot)
    (lacks_decimal h.c h.fit.2)) dot)
    (lacks_decimal h.d h.fit.3))

lacks_hex : (group : List ℕ) → IsNumeral 16 group → Lacks 47 group
lacks_hex group h = lacks_digits 16 47 group no_slash_16 h.1

lacks_three : (text lead group rest : List ℕ) → text ≡ lead ++ group ++ rest → Lacks 47 lead → Lacks 47 group → Lacks 47 rest → Lacks 47 text
lacks_three text lead group rest e l g r = rw e (lacks_both 47 (lead ++ group) rest (lacks_both 47 lead group l g) r)

lacks_two : (text lead last : List ℕ) → text ≡ lead ++ last → Lacks 47 lead → Lacks 47 last → Lacks 47 text
lacks_two text lead last e l g = rw e (lacks_both 47 lead last l g)

colon : Lacks 47 (58 ∷ [])
colon = one_other 47 58 (λ e. cc)

lacks_groups : (ipv4 : Bool) (lead text segments : List ℕ) → Lacks 47 lead → IsGroupsAfter ipv4 lead text segments → Lacks 47 text
lacks_groups ipv4 lead text [] l h = rw h tt
lacks_groups ipv4 lead text (s ∷ segments) l (inl (group, rest, e, g, more)) =
    lacks_three text lead group rest e l (lacks_hex group g.0.0) (lacks_groups ipv4 (58 ∷ []) rest segments colon more)
lacks_groups ipv4 lead text (s ∷ segments) l (inr (last, octets, may, e, d, v)) = lacks_two text lead last e l (lacks_dotted last octets d)

colons : Lacks 47 (58 ∷ 58 ∷ [])
colons = lacks_both 47 (58 ∷ []) (58 ∷ []) colon colon

lacks_elided : (text segments : List ℕ) → IsElided text segments → Lacks 47 text
lacks_elided text segments h =
    lacks_three text h.head_text (58 ∷ 58 ∷ []) h.tail_text h.spelled (lacks_groups false [] h.head_text h.head tt h.head_groups) colons
    (lacks_groups true [] h.tail_text h.tail tt h.tail_groups)

lacks_colon_hex : (text segments : List ℕ) → IsColonHex text segments → Lacks 47 text
lacks_colon_hex text segments h = elim h [
  | inl groups ↦ lacks_groups true [] text segments tt groups.0
  | inr elided ↦ lacks_elided text segments elided
]

-- no slash stands in an address
pub lacks_slash : (v : Version) (text : List ℕ) (n : ℕ) → IsAddressText v text n → Lacks 47 text
lacks_slash V4 text n h = lacks_dotted text _ (text_read V4 text n h).1
lacks_slash V6 text n h = lacks_colon_hex text _ (text_read V6 text n h).1

pub one_version : (v w : Version) (text : List ℕ) (m n : ℕ) → IsAddressText v text m → IsAddressText w text n → v ≡ w
one_version V4 V4 text m n g h = refl
one_version V6 V6 text m n g h = refl
one_version V4 V6 text m n g h = absurd (has_dot text _ (text_read V4 text m g).1 (text_read V6 text n h).2)
one_version V6 V4 text m n g h = absurd (has_dot text _ (text_read V4 text n h).1 (text_read V6 text m g).2)

pub lacks_not : (c : ℕ) (text xs ys : List ℕ) → text ≡ xs ++ (c ∷ ys) → Lacks c text → ⊥
lacks_not c text xs ys e l = let whole = rw e at l in (lacks_back c xs (c ∷ ys) whole).0 refl

-- a text without a slash
pub without_slash : (text : List ℕ) (n : Network) → IsSplitOnceResult 47 text None → IsNetworkText text n →
    IsAddressText n.version text n.address × (n.prefix ≡ width n.version)
without_slash text n h t = elim t.prefix [
  | inl p ↦ (subst (λ (xs : List ℕ). IsAddressText n.version xs n.address) (sym (t.spelled ∙ ap (λ (xs : List ℕ). t.address_text ++ xs) p.0 ∙ append-nil t.address_text)) t.address, p.1)
  | inr p ↦ absurd (split_after 47 text t.address_text (decimal n.prefix) None h (lit< tt)
      (t.spelled ∙ ap (λ (xs : List ℕ). t.address_text ++ xs) p.0) (lacks_at 47 t.address_text (lacks_slash n.version t.address_text n.address t.address)))
]

-- a text that is cut at its slash
pub at_slash : (text : List ℕ) (x : Bor (List ℕ) × Bor (List ℕ)) (n : Network) → IsSplitOnceResult 47 text (Some x) → IsNetworkText text n →
    IsAddressText n.version x.0.now n.address × (x.1.now ≡ decimal n.prefix) × (n.prefix ≤ width n.version)
at_slash text x n h t = elim t.prefix [
  | inl p ↦ let plain : text ≡ t.address_text = t.spelled ∙ ap (λ (xs : List ℕ). t.address_text ++ xs) p.0 ∙ append-nil t.address_text in
      absurd (lacks_not 47 text x.0.now x.1.now (split_parts 47 text (Some x) h (lit< tt)).0 (rw plain (lacks_slash n.version t.address_text n.address t.address)))
  | inr p ↦ let same = split_after 47 text t.address_text (decimal n.prefix) (Some x) h (lit< tt)
      (t.spelled ∙ ap (λ (xs : List ℕ). t.address_text ++ xs) p.0) (lacks_at 47 t.address_text (lacks_slash n.version t.address_text n.address t.address)) in
      (subst (λ (xs : List ℕ). IsAddressText n.version xs n.address) (sym same.0) t.address, same.1, p.1)
]

-- a first character that no text of an address or a prefix has
pub first_of_decimal : (text : List ℕ) (n c : ℕ) → n < 256 → text ≡ decimal n → get_or text 0 0 ≡ c → (c < 48) → ⊥
first_of_decimal text n c small e first low =
    let digits = (decimal_is_IsNumeral n (omega arith)).0 in
    let in_range = digit_at (decimal n) 0 digits.1 digits.0 in
    let same : get_or (decimal n) 0 0 ≡ c = ap (λ (xs : List ℕ). get_or xs 0 0) (sym e) ∙ first in
    omega arith

-- no needless zero stands first
pub not_padded : (text : List ℕ) (n : ℕ) → n < 256 → text ≡ decimal n → get_or text 0 0 ≡ 48 → 1 < length text → ⊥
not_padded text n small e first long = elim (cases_lt 0 n) [
  | inl some ↦ let above = first_decimal n some (omega arith) in
      let same : get_or (decimal n) 0 0 ≡ 48 = ap (λ (xs : List ℕ). get_or xs 0 0) (sym e) ∙ first in omega arith
  | inr none ↦ let zero_is : n ≡ 0 = omega arith in
      let size : length text ≡ 1 = ap length (e ∙ ap decimal zero_is ∙ decimal_digit 0 (lit< tt)) in omega arith
]
