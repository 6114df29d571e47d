-- Defines how the decision procedures of TextsDecided decide. No body here is trusted: the type of each procedure
-- states what it decides.
use Prim.Native.Char.{code}
use Rattle.std.specs.Prelude.{◌≡◌, ◌⊎◌, ℕ, zero, suc, pos, ℤ, neg_ℤ, ◌+◌, ◌-◌, ◌*◌, ◌^◌, ◌<◌, ◌≤◌, List, [], ◌∷◌, ◌++◌}
use Rattle.std.specs.Prelude.{length, replicate, codes, FitsSigned, refl}
use Rattle.std.proofs.Common.{inl, inr, ap, arith, sym, subst, ◌∙◌, append_assoc}
use Rattle.std.specs.Int.{w64}
use Rattle.std.specs.Char.{digit_value}
use Rattle.std.specs.Fmt.{decimal}
use Rattle.std.specs.Str.Parse.{IsNumeral, AllDigits, digits_value}
use lib.Signed.{mag}
use mir.Val.{hbits}
use Rattle.extensions.specs.declared.ip_net.Version.{Version}
use Rattle.extensions.specs.declared.ip_net.Version.TheVariants.{V4, V6}
use Rattle.extensions.specs.AddressText.{IsIpv4Text, IsIpv6Text, IsGroup, AreGroups, IsFull, IsElided, groups_after}
use Rattle.extensions.specs.DecimalText.{IsUnsignedText, IsSignedText, plain, minus, IsDecimalText}
use Rattle.extensions.specs.Network.{Network, width, least, greatest, IsWithin}
use Rattle.extensions.specs.NetworkText.{IsAddressText, IsPrefixText, IsNetworkText}
use Rattle.extensions.specs.Decided.{Decided}
use Rattle.extensions.specs.inner.Deciding.{decided_as, both_decided, either_decided, lt_decided, text_decided}
use Rattle.extensions.specs.inner.Deciding.{below_decided, parted_decided, after_decided}

digits_decided : (radix : ℕ) (text : List ℕ) → Decided (AllDigits radix text)
digits_decided radix [] = inl tt
digits_decided radix (c ∷ cs) = both_decided (lt_decided (digit_value c) radix) (digits_decided radix cs)

numeral_decided : (radix : ℕ) (text : List ℕ) → Decided (IsNumeral radix text)
numeral_decided radix text = both_decided (lt_decided 0 (length text)) (digits_decided radix text)

short_decided : (text : List ℕ) → Decided (length text ≤ 4)
short_decided text = decided_as (λ l. omega (arith, l)) (λ l. omega (arith, l)) (lt_decided (length text) 5)

-- ---- decimals

fits_decided : (z : ℤ) → Decided (FitsSigned w64 z)
fits_decided z = decided_as (λ l. record { sfits = l }) (λ f. f.sfits) (lt_decided (mag z) (2 ^ hbits w64))

-- `value_of whole fraction` is the number of ten-thousandths of a decimal with the digits `whole` before the point and
-- the digits `fraction`, at most four, after it. `scaled` and `one_value` prove that `IsUnsignedText` relates a text of
-- these digits to exactly this number.
value_of : List ℕ → List ℕ → ℕ
value_of whole fraction = digits_value 10 (whole ++ fraction) * 10 ^ (4 - length fraction)

scaled : (v l : ℕ) → l ≤ 4 → v * 10 ^ (4 - l) * 10 ^ l ≡ v * 10000
scaled v zero h = omega arith
scaled v (suc zero) h = omega arith
scaled v (suc (suc zero)) h = omega arith
scaled v (suc (suc (suc zero))) h = omega arith
scaled v (suc (suc (suc (suc zero)))) h = omega arith
scaled v (suc (suc (suc (suc (suc l))))) h = absurd (omega arith)

one_value : (n v l : ℕ) → l ≤ 4 → n * 10 ^ l ≡ v * 10000 → n ≡ v * 10 ^ (4 - l)
one_value n v zero h e = omega arith
one_value n v (suc zero) h e = omega arith
one_value n v (suc (suc zero)) h e = omega arith
one_value n v (suc (suc (suc zero))) h e = omega arith
one_value n v (suc (suc (suc (suc zero)))) h e = omega arith
one_value n v (suc (suc (suc (suc (suc l))))) h e = absurd (omega arith)

-- `Digits Q whole fraction` holds if `whole` and `fraction` are the digits around the point of a decimal without a
-- sign, and its ten-thousandths satisfy `Q`.
Digits : (ℕ → Type 0) → List ℕ → List ℕ → Type 0
Digits Q whole fraction = IsNumeral 10 whole × IsNumeral 10 fraction × (length fraction ≤ 4)
    × Q (value_of whole fraction)

-- `unsigned_decided Q d text` decides whether `text` is a decimal without a sign whose ten-thousandths satisfy `Q`.
unsigned_decided : (Q : ℕ → Type 0) → ((n : ℕ) → Decided (Q n)) → (text : List ℕ)
    → Decided ((n : ℕ) × IsUnsignedText text n × Q n)
unfolding Digits value_of
unsigned_decided Q d text = decided_as there back
    (parted_decided (λ whole b. (fraction : List ℕ) × (b ≡ code "." ∷ fraction) × Digits Q whole fraction)
    (λ whole b. after_decided (code ".") (Digits Q whole) (λ fraction. digits whole fraction) b) text)
  where
    digits : (whole fraction : List ℕ) → Decided (Digits Q whole fraction)
    digits whole fraction = decided_as
        (λ h. (h.0, h.1.0, h.1.1.0, h.1.1.1))
        (λ h. (h.0, (h.1, (h.2, h.3))))
        (both_decided (numeral_decided 10 whole)
        (both_decided (numeral_decided 10 fraction)
        (both_decided (short_decided fraction) (d (value_of whole fraction)))))

    there : ((whole b : List ℕ) × (text ≡ whole ++ b)
        × ((fraction : List ℕ) × (b ≡ code "." ∷ fraction) × Digits Q whole fraction)) → (n : ℕ)
        × IsUnsignedText text n × Q n
    there (whole, b, e, (fraction, f, (w, g, short, q))) = (
      value_of whole fraction,
      record {
        whole = whole;
        fraction = fraction;
        spelled =
            e ∙ ap (λ (xs : List ℕ). whole ++ xs) f ∙ sym (append_assoc whole (code "." ∷ []) fraction);
        whole_digits =
            w;
        fraction_digits = g;
        short = short;
        value =
            scaled (digits_value 10 (whole ++ fraction)) (length fraction) short;
      },
      q,
    )

    back : ((n : ℕ) × IsUnsignedText text n × Q n) → (whole b : List ℕ) × (text ≡ whole ++ b)
        × ((fraction : List ℕ) × (b ≡ code "." ∷ fraction) × Digits Q whole fraction)
    back (n, t, q) = (
      t.whole,
      code "." ∷ t.fraction,
      t.spelled ∙ append_assoc t.whole (code "." ∷ []) t.fraction,
      (
        t.fraction,
        refl,
        (
          t.whole_digits,
          t.fraction_digits,
          t.short,
          subst Q (one_value n (digits_value 10 (t.whole ++ t.fraction)) (length t.fraction) t.short t.value) q,
        ),
      ),
    )

-- `Plain text` holds if `text` is a decimal without a sign, and `Minus text` if `text` is a decimal with a `-`.
Plain : List ℕ → Type 0
Plain text = (n : ℕ) × IsUnsignedText text n × FitsSigned w64 (pos n)

Minus : List ℕ → Type 0
Minus text = (rest : List ℕ) × (text ≡ code "-" ∷ rest)
    × ((n : ℕ) × IsUnsignedText rest n × FitsSigned w64 (neg_ℤ (pos n)))

signed_cases : (text : List ℕ) (z : ℤ) → IsSignedText text z → FitsSigned w64 z → Plain text ⊎ Minus text
unfolding Plain Minus
signed_cases _ _ (plain {text} {n} t) f = inl (n, t, f)
signed_cases _ _ (minus {text} {n} t) f = inr (text, refl, (n, t, f))

-- `decimal_text_decided text` decides whether `text` is a decimal, and gives its ten-thousandths.
pub decimal_text_decided : (text : List ℕ) → Decided ((z : ℤ) × IsDecimalText text z)
unfolding Plain Minus
decimal_text_decided text = decided_as
    (λ h. elim h [
      | inl p ↦ (pos p.0, (plain p.1, p.2))
      | inr m ↦ (
        neg_ℤ (pos m.2.0),
        (subst (λ (xs : List ℕ). IsSignedText xs (neg_ℤ (pos m.2.0))) (sym m.1) (minus m.2.1), m.2.2),
      )
    ])
    (λ h. signed_cases text h.0 h.1.0 h.1.1)
    (either_decided
    (unsigned_decided (λ n. FitsSigned w64 (pos n)) (λ n. fits_decided (pos n)) text)
    (after_decided (code "-") (λ rest. (n : ℕ) × IsUnsignedText rest n × FitsSigned w64 (neg_ℤ (pos n)))
    (λ rest. unsigned_decided (λ n. FitsSigned w64 (neg_ℤ (pos n))) (λ n. fits_decided (neg_ℤ (pos n))) rest) text))

-- ---- IPv4 addresses

-- `dotted a b c d` are four numbers in decimal with dots between them; `Dotted text` holds if `text` is four such
-- numbers below 256.
dotted : ℕ → ℕ → ℕ → ℕ → List ℕ
dotted a b c d = decimal a ++ codes "." ++ decimal b ++ codes "." ++ decimal c ++ codes "." ++ decimal d

Dotted : List ℕ → Type 0
Dotted text = (a : ℕ) × (a < 256)
    × ((b : ℕ) × (b < 256) × ((c : ℕ) × (c < 256) × ((d : ℕ) × (d < 256) × (text ≡ dotted a b c d))))

dotted_decided : (text : List ℕ) → Decided (Dotted text)
unfolding Dotted
dotted_decided text = below_decided 256 _
    (λ a. below_decided 256 _
    (λ b. below_decided 256 _ (λ c. below_decided 256 _ (λ d. text_decided text (dotted a b c d)))))

ipv4_decided : (text : List ℕ) → Decided ((n : ℕ) × IsIpv4Text text n)
unfolding Dotted dotted
ipv4_decided text = decided_as there back (dotted_decided text)
  where
    there : Dotted text → (n : ℕ) × IsIpv4Text text n
    there (a, fa, (b, fb, (c, fc, (d, fd, e)))) = (
      ((a * 256 + b) * 256 + c) * 256 + d,
      record { a = a; b = b; c = c; d = d; fit = (fa, fb, fc, fd); spelled = e; value = refl },
    )

    back : ((n : ℕ) × IsIpv4Text text n) → Dotted text
    back (n, t) = (t.a, t.fit.0, (t.b, t.fit.1, (t.c, t.fit.2, (t.d, t.fit.3, t.spelled))))

-- ---- IPv6 addresses

group_decided : (text : List ℕ) → Decided ((n : ℕ) × IsGroup text n)
group_decided text = decided_as
    (λ h. (digits_value 16 text, record { hexadecimal = h.0; short = h.1; value = refl }))
    (λ h. (h.1.hexadecimal, h.1.short))
    (both_decided (numeral_decided 16 text) (short_decided text))

-- `Groups k text` holds if `text` is some `k` groups, with a colon between each two.
Groups : ℕ → List ℕ → Type 0
Groups k text = (groups : List ℕ) × AreGroups text groups × (length groups ≡ k)

groups_decided : (k : ℕ) (text : List ℕ) → Decided (Groups k text)
unfolding Groups
groups_decided zero text = decided_as (λ e. ([], e, refl)) back (text_decided text [])
  where
    back : Groups zero text → text ≡ []
    back ([], g, l) = g
    back (n ∷ [], g, l) = absurd (omega arith)
    back (n ∷ m ∷ more, g, l) = absurd (omega arith)
groups_decided (suc zero) text = decided_as (λ h. (h.0 ∷ [], h.1, refl)) back (group_decided text)
  where
    back : Groups (suc zero) text → (n : ℕ) × IsGroup text n
    back ([], g, l) = absurd (omega arith)
    back (n ∷ [], g, l) = (n, g)
    back (n ∷ m ∷ more, g, l) = absurd (omega arith)
groups_decided (suc (suc k)) text = decided_as there back
    (parted_decided (λ group b. ((n : ℕ) × IsGroup group n)
    × ((rest : List ℕ) × (b ≡ code ":" ∷ rest) × Groups (suc k) rest))
    (λ group b. both_decided (group_decided group)
    (after_decided (code ":") (Groups (suc k)) (groups_decided (suc k)) b))
    text)
  where
    joined : (group rest : List ℕ) (n : ℕ) (groups : List ℕ) → text ≡ group ++ (code ":" ∷ rest) → IsGroup group n
        → AreGroups rest groups → length groups ≡ suc k → Groups (suc (suc k)) text
    joined group rest n [] e g more l = absurd (omega arith)
    joined group rest n (m ∷ others) e g more l =
        (n ∷ m ∷ others, (group, rest, e ∙ sym (append_assoc group (code ":" ∷ []) rest), g, more), ap suc l)

    there : ((group b : List ℕ) × (text ≡ group ++ b)
        × (((n : ℕ) × IsGroup group n) × ((rest : List ℕ) × (b ≡ code ":" ∷ rest) × Groups (suc k) rest)))
        → Groups (suc (suc k)) text
    there (group, b, e, ((n, g), (rest, f, (groups, more, l)))) =
        joined group rest n groups (e ∙ ap (λ (xs : List ℕ). group ++ xs) f) g more l

    back : Groups (suc (suc k)) text → (group b : List ℕ) × (text ≡ group ++ b)
        × (((n : ℕ) × IsGroup group n) × ((rest : List ℕ) × (b ≡ code ":" ∷ rest) × Groups (suc k) rest))
    back ([], g, l) = absurd (omega arith)
    back (n ∷ [], g, l) = absurd (omega arith)
    back (n ∷ m ∷ others, (group, rest, e, g, more), l) = (
      group,
      code ":" ∷ rest,
      e ∙ append_assoc group (code ":" ∷ []) rest,
      ((n, g), (rest, refl, (m ∷ others, more, omega (arith, l)))),
    )

full_decided : (text : List ℕ) → Decided ((groups : List ℕ) × IsFull text groups)
unfolding Groups
full_decided text = decided_as
    (λ h. (h.0, record { written = h.1; eight = h.2 }))
    (λ h. (h.0, h.1.written, h.1.eight))
    (groups_decided 8 text)

-- `Sides head tail` holds if `head` and `tail` are groups, fewer than eight together.
Sides : List ℕ → List ℕ → Type 0
Sides head tail = (k : ℕ) × (k < 8) × ((l : ℕ) × (l < 8) × ((k + l < 8) × (Groups k head × Groups l tail)))

sides_decided : (head tail : List ℕ) → Decided (Sides head tail)
unfolding Sides
sides_decided head tail =
    below_decided 8 _ (λ k. below_decided 8 _
    (λ l. both_decided (lt_decided (k + l) 8) (both_decided (groups_decided k head) (groups_decided l tail))))

-- `Cut text` holds if `text` is two strings with `::` between them, of which `Sides` holds.
Cut : List ℕ → Type 0
Cut text = (head b : List ℕ) × (text ≡ head ++ b)
    × ((c : List ℕ) × (b ≡ code ":" ∷ c) × ((tail : List ℕ) × (c ≡ code ":" ∷ tail) × Sides head tail))

cut_decided : (text : List ℕ) → Decided (Cut text)
unfolding Cut
cut_decided text =
    parted_decided (λ head b. (c : List ℕ) × (b ≡ code ":" ∷ c)
    × ((tail : List ℕ) × (c ≡ code ":" ∷ tail) × Sides head tail))
    (λ head b. after_decided (code ":") (λ c. (tail : List ℕ) × (c ≡ code ":" ∷ tail) × Sides head tail)
    (λ c. after_decided (code ":") (Sides head) (sides_decided head) c) b) text

elided_decided : (text : List ℕ) → Decided ((groups : List ℕ) × IsElided text groups)
unfolding Cut Sides Groups
elided_decided text = decided_as there back (cut_decided text)
  where
    there : Cut text → (groups : List ℕ) × IsElided text groups
    there (head_text, b, e, (c, f, (tail_text, g, (k, kl, (l, ll, (room, ((head, hw, hl), (tail, tw, tl)))))))) = (
      head ++ replicate (8 - length head - length tail) 0 ++ tail,
      record {
        head_text = head_text;
        tail_text = tail_text;
        head = head;
        tail = tail;
        spelled = e ∙ (ap (λ (xs : List ℕ). head_text ++ xs) (f ∙ ap (λ (xs : List ℕ). code ":" ∷ xs) g)
            ∙ sym (append_assoc head_text (code ":" ∷ code ":" ∷ []) tail_text));
        head_written = hw;
        tail_written = tw;
        room = omega (arith, room, hl, tl);
        value = refl;
      },
    )

    back : ((groups : List ℕ) × IsElided text groups) → Cut text
    back (groups, t) = (
      t.head_text,
      code ":" ∷ code ":" ∷ t.tail_text,
      t.spelled ∙ append_assoc t.head_text (code ":" ∷ code ":" ∷ []) t.tail_text,
      (
        code ":" ∷ t.tail_text,
        refl,
        (
          t.tail_text,
          refl,
          (
            length t.head,
            omega (arith, t.room),
            (
              length t.tail,
              omega (arith, t.room),
              (t.room, ((t.head, t.head_written, refl), (t.tail, t.tail_written, refl))),
            ),
          ),
        ),
      ),
    )

ipv6_decided : (text : List ℕ) → Decided ((n : ℕ) × IsIpv6Text text n)
ipv6_decided text = decided_as
    (λ h. elim h [
      | inl f ↦ (groups_after 0 f.0, (f.0, inl f.1, refl))
      | inr e ↦ (groups_after 0 e.0, (e.0, inr e.1, refl))
    ])
    (λ h. elim h.1.1 [ inl f ↦ inl (h.1.0, f) | inr e ↦ inr (h.1.0, e) ])
    (either_decided (full_decided text) (elided_decided text))

-- ---- networks

address_decided : (v : Version) (text : List ℕ) → Decided ((n : ℕ) × IsAddressText v text n)
address_decided V4 text = ipv4_decided text
address_decided V6 text = ipv6_decided text

prefix_decided : (bits : ℕ) (text : List ℕ) → Decided ((p : ℕ) × IsPrefixText bits text p)
prefix_decided bits text = decided_as
    (λ h. elim h [
      | inl e ↦ (bits, inl (e, refl))
      | inr f ↦ (f.0, inr (f.2, omega (arith, f.1)))
    ])
    (λ h. elim h.1 [
      | inl e ↦ inl e.0
      | inr f ↦ inr (h.0, omega (arith, f.1), f.0)
    ])
    (either_decided (text_decided text [])
    (below_decided (bits + 1) (λ p. text ≡ codes "/" ++ decimal p)
    (λ p. text_decided text (codes "/" ++ decimal p))))

-- `OfVersion v text` holds if `text` is an address of the version `v`, with an optional prefix.
OfVersion : Version → List ℕ → Type 0
OfVersion v text = (a b : List ℕ) × (text ≡ a ++ b)
    × (((n : ℕ) × IsAddressText v a n) × ((p : ℕ) × IsPrefixText (width v) b p))

version_decided : (v : Version) (text : List ℕ) → Decided (OfVersion v text)
unfolding OfVersion
version_decided v text =
    parted_decided (λ a b. ((n : ℕ) × IsAddressText v a n) × ((p : ℕ) × IsPrefixText (width v) b p))
    (λ a b. both_decided (address_decided v a) (prefix_decided (width v) b)) text

of_version : (v : Version) (text : List ℕ) → OfVersion v text → (n : Network) × IsNetworkText text n
unfolding OfVersion
of_version v text (a, b, e, ((n, at), (p, pt))) = (
  record { version = v; address = n; prefix = p },
  record { address_text = a; prefix_text = b; spelled = e; address = at; prefix = pt },
)

version_of : (v : Version) (text : List ℕ) (n : Network) → n.version ≡ v → IsNetworkText text n → OfVersion v text
unfolding OfVersion
version_of v text n same t = (
  t.address_text,
  t.prefix_text,
  t.spelled,
  (
    (n.address, subst (λ (v : Version). IsAddressText v t.address_text n.address) same t.address),
    (n.prefix, subst (λ (v : Version). IsPrefixText (width v) t.prefix_text n.prefix) same t.prefix),
  ),
)

versions : (v : Version) → (v ≡ V4) ⊎ (v ≡ V6)
versions V4 = inl refl
versions V6 = inr refl

-- `network_text_decided text` decides whether `text` denotes a network, and gives it.
pub network_text_decided : (text : List ℕ) → Decided ((n : Network) × IsNetworkText text n)
network_text_decided text = decided_as
    (λ h. elim h [ inl f ↦ of_version V4 text f | inr s ↦ of_version V6 text s ])
    (λ h. elim (versions h.0.version)
    [ inl e ↦ inl (version_of V4 text h.0 e h.1) | inr e ↦ inr (version_of V6 text h.0 e h.1) ])
    (either_decided (version_decided V4 text) (version_decided V6 text))

-- ---- ranges

le_decided : (a b : ℕ) → Decided (a ≤ b)
le_decided a b = decided_as (λ l. omega (arith, l)) (λ l. omega (arith, l)) (lt_decided a (b + 1))

same_version_decided : (v w : Version) → Decided (v ≡ w)
same_version_decided V4 V4 = inl refl
same_version_decided V4 V6 = inr (λ e. cc)
same_version_decided V6 V4 = inr (λ e. cc)
same_version_decided V6 V6 = inl refl

-- `within_decided a b` decides whether the range of `a` is within that of `b`.
pub within_decided : (a b : Network) → Decided (IsWithin a b)
within_decided a b = decided_as
    (λ h. record { same_version = h.0; from = h.1.0; to = h.1.1 })
    (λ w. (w.same_version, (w.from, w.to)))
    (both_decided (same_version_decided a.version b.version)
    (both_decided (le_decided (least b) (least a)) (le_decided (greatest a) (greatest b))))

-- `in_either_decided n a b` decides whether the range of `n` is within that of `a` or of `b`.
pub in_either_decided : (n a b : Network) → Decided (IsWithin n a ⊎ IsWithin n b)
in_either_decided n a b = either_decided (within_decided n a) (within_decided n b)
