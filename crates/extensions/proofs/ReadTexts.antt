-- The texts that std reads as addresses are those of the definitions.
use Rattle.std.proofs.Common.{◌≡◌, ℕ, ◌+◌, ◌-◌, ◌*◌, ◌<◌, Bool, true, false, List, [], ◌∷◌, ◌++◌, length, refl, sym, ◌∙◌, ap, subst, arith, append_assoc, length-append, inl, inr}
use Rattle.std.specs.Prelude.{replicate}
use Rattle.std.proofs.lemmas.List.{append-nil, length-replicate}
use Rattle.std.specs.Fmt.{decimal}
use Rattle.std.specs.Char.{digit_value}
use Rattle.std.specs.Int.{from_be_bytes, w32, w128}
use Rattle.std.specs.Net.Grammar as std
use Rattle.std.specs.Net.Addr.{ipv4_bits, ipv6_bits, octets_of}
use Rattle.std.specs.declared.net.ipv4_addr.Ipv4Addr.{Ipv4Addr}
use Rattle.std.specs.declared.net.ipv6_addr.Ipv6Addr.{Ipv6Addr}
use Rattle.extensions.specs.declared.ip_net.Version.{Version}
use Rattle.extensions.specs.declared.ip_net.Version.TheVariants.{V4, V6}
use Rattle.extensions.specs.AddressText.{IsIpv4Text, IsIpv6Text, IsGroup, AreGroups, IsElided, groups_after}
use Rattle.extensions.specs.NetworkText.{IsAddressText}
use Rattle.extensions.proofs.Lacks.{Lacks, lacks_both, lacks_front, lacks_back, lacks_digits}

-- an address as std reads it, without an embedded IPv4 address
abbrev pub IsReadText : Version → List ℕ → ℕ → Type 0
IsReadText V4 text n = (a : Ipv4Addr) × std.IsIpv4Text text a × (n ≡ ipv4_bits a)
IsReadText V6 text n = (a : Ipv6Addr) × std.IsIpv6Text text a × Lacks 46 text × (n ≡ ipv6_bits a)

pub has_dot : (text octets : List ℕ) → std.IsDotted text octets → Lacks 46 text → ⊥
has_dot text octets h l = let spelled = rw h.spelled at l in (lacks_back 46 _ (46 ∷ []) (lacks_front 46 _ (decimal h.d) spelled)).0 refl

-- ---- IPv4

value_of_octets : (a b c d : ℕ) → from_be_bytes w32 (a ∷ b ∷ c ∷ d ∷ []) ≡ ((a * 256 + b) * 256 + c) * 256 + d
value_of_octets a b c d = omega arith

ipv4_read : (text : List ℕ) (n : ℕ) → IsIpv4Text text n → IsReadText V4 text n
unfolding ipv4_bits
ipv4_read text n t = (
  record { octets = t.a ∷ t.b ∷ t.c ∷ t.d ∷ [] },
  record { a = t.a; b = t.b; c = t.c; d = t.d; fit = t.fit; value = refl; spelled = t.spelled },
  t.value ∙ sym (value_of_octets t.a t.b t.c t.d),
)

read_ipv4 : (text : List ℕ) (n : ℕ) → IsReadText V4 text n → IsIpv4Text text n
unfolding ipv4_bits
read_ipv4 text n h = let t = h.1 in record {
  a = t.a;
  b = t.b;
  c = t.c;
  d = t.d;
  fit = t.fit;
  spelled = t.spelled;
  value = h.2 ∙ ap (λ (xs : List ℕ). from_be_bytes w32 xs) t.value ∙ value_of_octets t.a t.b t.c t.d;
}

-- ---- the groups of IPv6

group_read : (text : List ℕ) (n : ℕ) → IsGroup text n → std.IsGroup text n
group_read text n g = ((g.hexadecimal, g.value), g.short)

read_group : (text : List ℕ) (n : ℕ) → std.IsGroup text n → IsGroup text n
read_group text n g = record { hexadecimal = g.0.0; short = g.1; value = g.0.1 }

after_lead : (lead text group rest : List ℕ) → text ≡ group ++ (58 ∷ []) ++ rest → lead ++ text ≡ lead ++ group ++ (58 ∷ rest)
after_lead lead text group rest e = rw e (simp append_assoc)

groups_after_lead : (v4 : Bool) (lead text : List ℕ) (n : ℕ) (more : List ℕ) → AreGroups text (n ∷ more) → std.IsGroupsAfter v4 lead (lead ++ text) (n ∷ more)
groups_after_lead v4 lead text n [] g = inl (text, [], sym (append-nil (lead ++ text)), group_read text n g, refl)
groups_after_lead v4 lead text n (next ∷ more) (group, rest, e, g, others) =
    inl (group, 58 ∷ rest, after_lead lead text group rest e, group_read group n g, groups_after_lead v4 (58 ∷ []) rest next more others)

groups_read : (v4 : Bool) (text groups : List ℕ) → AreGroups text groups → std.IsGroups v4 text groups
groups_read v4 text [] e = e
groups_read v4 text (n ∷ more) g = groups_after_lead v4 [] text n more g

read_after_lead : (v4 : Bool) (lead text : List ℕ) (n : ℕ) (more : List ℕ) → Lacks 46 text → std.IsGroupsAfter v4 lead text (n ∷ more) →
    (inner : List ℕ) × (text ≡ lead ++ inner) × AreGroups inner (n ∷ more)
read_after_lead v4 lead text n more dotless (inr (last, octets, may, e, d, v)) =
    absurd (has_dot last octets d (lacks_back 46 lead last (subst (Lacks 46) e dotless)))
read_after_lead v4 lead text n [] dotless (inl (group, rest, e, g, others)) =
    (group, e ∙ ap (λ (xs : List ℕ). lead ++ group ++ xs) others ∙ append-nil (lead ++ group), read_group group n g)
read_after_lead v4 lead text n (next ∷ more) dotless (inl (group, rest, e, g, others)) =
    let further = read_after_lead v4 (58 ∷ []) rest next more (lacks_back 46 (lead ++ group) rest (subst (Lacks 46) e dotless)) others in
    (group ++ (58 ∷ []) ++ further.0, e ∙ ap (λ (xs : List ℕ). lead ++ group ++ xs) further.1 ∙ (simp append_assoc), (group, further.0, refl, read_group group n g, further.2))

read_groups : (v4 : Bool) (text groups : List ℕ) → Lacks 46 text → std.IsGroups v4 text groups → AreGroups text groups
read_groups v4 text [] dotless e = e
read_groups v4 text (n ∷ more) dotless g =
    let inner = read_after_lead v4 [] text n more dotless g in
    subst (λ (xs : List ℕ). AreGroups xs (n ∷ more)) (sym inner.1) inner.2

-- ---- what stands in them

no_dot_16 : ¬ (digit_value 46 < 16)
no_dot_16 h = omega (arith, h)

colon : Lacks 46 (58 ∷ [])
colon = (λ e. omega (arith, e), tt)

groups_lack : (text groups : List ℕ) → AreGroups text groups → Lacks 46 text
groups_lack text [] e = subst (Lacks 46) (sym e) tt
groups_lack text (n ∷ []) g = lacks_digits 16 46 text no_dot_16 g.hexadecimal.1
groups_lack text (n ∷ next ∷ more) (group, rest, e, g, others) =
    subst (Lacks 46) (sym e)
    (lacks_both 46 (group ++ (58 ∷ [])) rest (lacks_both 46 group (58 ∷ []) (lacks_digits 16 46 group no_dot_16 g.hexadecimal.1) colon)
    (groups_lack rest (next ∷ more) others))

elided_lacks : (text groups : List ℕ) → IsElided text groups → Lacks 46 text
elided_lacks text groups h =
    subst (Lacks 46) (sym h.spelled)
    (lacks_both 46 (h.head_text ++ (58 ∷ 58 ∷ [])) h.tail_text
    (lacks_both 46 h.head_text (58 ∷ 58 ∷ []) (groups_lack h.head_text h.head h.head_written) (lacks_both 46 (58 ∷ []) (58 ∷ []) colon colon))
    (groups_lack h.tail_text h.tail h.tail_written))

-- ---- IPv6

eight_groups : (groups : List ℕ) → length groups ≡ 8 → from_be_bytes w128 (octets_of groups) ≡ groups_after 0 groups
eight_groups (a ∷ b ∷ c ∷ d ∷ e ∷ f ∷ g ∷ h ∷ []) l = omega arith
eight_groups [] l = absurd (omega arith)
eight_groups (a ∷ []) l = absurd (omega arith)
eight_groups (a ∷ b ∷ []) l = absurd (omega arith)
eight_groups (a ∷ b ∷ c ∷ []) l = absurd (omega arith)
eight_groups (a ∷ b ∷ c ∷ d ∷ []) l = absurd (omega arith)
eight_groups (a ∷ b ∷ c ∷ d ∷ e ∷ []) l = absurd (omega arith)
eight_groups (a ∷ b ∷ c ∷ d ∷ e ∷ f ∷ []) l = absurd (omega arith)
eight_groups (a ∷ b ∷ c ∷ d ∷ e ∷ f ∷ g ∷ []) l = absurd (omega arith)
eight_groups (a ∷ b ∷ c ∷ d ∷ e ∷ f ∷ g ∷ h ∷ i ∷ more) l = absurd (omega arith)

elided_eight : (head tail groups : List ℕ) → length head + length tail < 8 → groups ≡ head ++ replicate (8 - length head - length tail) 0 ++ tail → length groups ≡ 8
elided_eight head tail groups room e =
    let zeros = length-replicate {A = ℕ} (8 - length head - length tail) 0 in
    ap length e ∙ length-append (head ++ replicate (8 - length head - length tail) 0) tail
    ∙ ap (λ (k : ℕ). k + length tail) (length-append head (replicate (8 - length head - length tail) 0)) ∙ (rw zeros (omega arith))

of_groups : (text : List ℕ) (n : ℕ) (groups : List ℕ) → std.IsColonHex text groups → Lacks 46 text → length groups ≡ 8 → n ≡ groups_after 0 groups → IsReadText V6 text n
unfolding ipv6_bits
of_groups text n groups t dotless eight e = (record { segments = groups }, t, dotless, e ∙ sym (eight_groups groups eight))

ipv6_read : (text : List ℕ) (n : ℕ) → IsIpv6Text text n → IsReadText V6 text n
ipv6_read text n (groups, inl t, e) =
    of_groups text n groups (inl (groups_read true text groups t.written, t.eight)) (groups_lack text groups t.written) t.eight e
ipv6_read text n (groups, inr t, e) =
    of_groups text n groups
    (inr (record {
      head_text = t.head_text;
      tail_text = t.tail_text;
      head = t.head;
      tail = t.tail;
      spelled = t.spelled;
      head_groups = groups_read false t.head_text t.head t.head_written;
      tail_groups = groups_read true t.tail_text t.tail t.tail_written;
      room = t.room;
      value = t.value;
    }))
    (elided_lacks text groups t) (elided_eight t.head t.tail groups t.room t.value) e

to_groups : (text : List ℕ) (n : ℕ) (groups : List ℕ) → std.IsColonHex text groups → Lacks 46 text → n ≡ from_be_bytes w128 (octets_of groups) → IsIpv6Text text n
to_groups text n groups (inl t) dotless e =
    (groups, inl (record { written = read_groups true text groups dotless t.0; eight = t.1 }), e ∙ eight_groups groups t.1)
to_groups text n groups (inr t) dotless e =
    let parts = subst (Lacks 46) t.spelled dotless in (
      groups,
      inr (record {
        head_text = t.head_text;
        tail_text = t.tail_text;
        head = t.head;
        tail = t.tail;
        spelled = t.spelled;
        head_written = read_groups false t.head_text t.head (lacks_front 46 t.head_text (58 ∷ 58 ∷ []) (lacks_front 46 (t.head_text ++ (58 ∷ 58 ∷ [])) t.tail_text parts)) t.head_groups;
        tail_written = read_groups true t.tail_text t.tail (lacks_back 46 (t.head_text ++ (58 ∷ 58 ∷ [])) t.tail_text parts) t.tail_groups;
        room = t.room;
        value = t.value;
      }),
      e ∙ eight_groups groups (elided_eight t.head t.tail groups t.room t.value),
    )

read_ipv6 : (text : List ℕ) (n : ℕ) → IsReadText V6 text n → IsIpv6Text text n
unfolding ipv6_bits
read_ipv6 text n h = to_groups text n h.0.segments h.1 h.2 h.3

-- ---- both

pub text_read : (v : Version) (text : List ℕ) (n : ℕ) → IsAddressText v text n → IsReadText v text n
text_read V4 text n t = ipv4_read text n t
text_read V6 text n t = ipv6_read text n t

pub read_text : (v : Version) (text : List ℕ) (n : ℕ) → IsReadText v text n → IsAddressText v text n
read_text V4 text n h = read_ipv4 text n h
read_text V6 text n h = read_ipv6 text n h
