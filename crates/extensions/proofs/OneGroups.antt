-- A text is of one IPv6 address.
use Rattle.std.proofs.Common.{◌≡◌, ℕ, ◌<◌, List, [], ◌∷◌, ◌++◌, refl, sym, ◌∙◌, ap, subst, arith, append_assoc, inl, inr, false, true}
use Rattle.std.proofs.lemmas.List.{append-nil}
use Rattle.std.specs.Char.{digit_value}
use Rattle.std.specs.Str.Parse.{digits_value}
use Rattle.std.specs.Net.Grammar.{IsGroup, IsGroupsAfter, IsGroups, IsElided, IsColonHex}
use Rattle.extensions.proofs.Lacks.{Lacks, lacks_digits, lacks_back}
use Rattle.extensions.proofs.ReadTexts.{has_dot}

no_colon_16 : ¬ (digit_value 58 < 16)
no_colon_16 h = omega (arith, h)

group_lacks : (group : List ℕ) (n : ℕ) → IsGroup group n → Lacks 58 group
group_lacks group n h = lacks_digits 16 58 group no_colon_16 h.0.0.1

-- a text behind groups: its end, or a colon
Follows : List ℕ → Type 0
Follows [] = Unit {0}
Follows (x ∷ xs) = x ≡ 58

-- a group is cut in one way
one_cut : (xs zs ys ws : List ℕ) → Lacks 58 xs → Lacks 58 zs → Follows ys → Follows ws → xs ++ ys ≡ zs ++ ws → (xs ≡ zs) × (ys ≡ ws)
unfolding Follows
one_cut [] [] ys ws lx lz fy fw e = (refl, e)
one_cut [] (z ∷ zs) [] ws lx lz fy fw e = absurd (cc)
one_cut [] (z ∷ zs) (y ∷ ys) ws lx lz fy fw e = let same : y ≡ z = cc in absurd (lz.0 (sym same ∙ fy))
one_cut (x ∷ xs) [] ys [] lx lz fy fw e = absurd (cc)
one_cut (x ∷ xs) [] ys (w ∷ ws) lx lz fy fw e = let same : x ≡ w = cc in absurd (lx.0 (same ∙ fw))
one_cut (x ∷ xs) (z ∷ zs) ys ws lx lz fy fw e =
    let head : x ≡ z = cc in
    let tail : xs ++ ys ≡ zs ++ ws = cc in
    let same = one_cut xs zs ys ws lx.1 lz.1 fy fw tail in
    (let front = same.0 in cc, same.1)

-- what may stand behind groups: nothing, or two colons and more
Ends : List ℕ → Type 0
Ends [] = Unit {0}
Ends (x ∷ []) = ⊥
Ends (x ∷ y ∷ rest) = (x ≡ 58) × (y ≡ 58)

ends_follow : (p : List ℕ) → Ends p → Follows p
unfolding Ends Follows
ends_follow [] h = tt
ends_follow (x ∷ []) h = absurd h
ends_follow (x ∷ y ∷ p) h = h.0

group_follows : (r p : List ℕ) (ss : List ℕ) → IsGroupsAfter false (58 ∷ []) r ss → Ends p → Follows (r ++ p)
unfolding Follows
group_follows r p [] g e = subst (λ (xs : List ℕ). Follows (xs ++ p)) (sym g) (ends_follow p e)
group_follows r p (s ∷ ss) (inl (group, rest, w, g, more)) e = subst (λ (xs : List ℕ). Follows (xs ++ p)) (sym w) refl
group_follows r p (s ∷ ss) (inr (last, octets, never, w, d, v)) e = absurd (cc)

no_group : (p g more : List ℕ) (n : ℕ) → Ends p → IsGroup g n → p ≡ 58 ∷ (g ++ more) → ⊥
unfolding Ends
no_group p [] more n e g w = omega (arith, g.0.0.0)
no_group [] (x ∷ xs) more n e g w = cc
no_group (a ∷ []) (x ∷ xs) more n e g w = e
no_group (a ∷ b ∷ p) (x ∷ xs) more n e g w = let same : b ≡ x = cc in (group_lacks (x ∷ xs) n g).0 (sym same ∙ e.1)

no_first : (p g more : List ℕ) (n : ℕ) → Ends p → IsGroup g n → p ≡ g ++ more → ⊥
unfolding Ends
no_first p [] more n e g w = omega (arith, g.0.0.0)
no_first [] (x ∷ xs) more n e g w = cc
no_first (a ∷ []) (x ∷ xs) more n e g w = e
no_first (a ∷ b ∷ p) (x ∷ xs) more n e g w = let same : a ≡ x = cc in (group_lacks (x ∷ xs) n g).0 (sym same ∙ e.0)

one_value : (g k : List ℕ) (m n : ℕ) → IsGroup g m → IsGroup k n → g ≡ k → m ≡ n
one_value g k m n a b e = sym a.0.1 ∙ ap (digits_value 16) e ∙ b.0.1

cons_same : (s t : ℕ) (ss ts : List ℕ) → s ≡ t → ss ≡ ts → s ∷ ss ≡ t ∷ ts
cons_same s t ss ts a b = cc

-- groups, each after a colon, and what stands behind them
same_groups : (ss ts h k p q : List ℕ) → IsGroupsAfter false (58 ∷ []) h ss → IsGroupsAfter false (58 ∷ []) k ts → Ends p → Ends q →
    h ++ p ≡ k ++ q → (ss ≡ ts) × (p ≡ q)
same_groups [] [] h k p q a b ep eq e = (refl, sym (ap (λ (xs : List ℕ). xs ++ p) a) ∙ e ∙ ap (λ (xs : List ℕ). xs ++ q) b)
same_groups [] (t ∷ ts) h k p q a (inl (g, r, w, is, more)) ep eq e =
    absurd (no_group p g (r ++ q) t ep is (sym (ap (λ (xs : List ℕ). xs ++ p) a) ∙ e ∙ ap (λ (xs : List ℕ). xs ++ q) w ∙ ap (λ (xs : List ℕ). 58 ∷ xs) (append_assoc g r q)))
same_groups [] (t ∷ ts) h k p q a (inr (last, octets, never, w, d, v)) ep eq e = absurd (cc)
same_groups (s ∷ ss) [] h k p q (inl (g, r, w, is, more)) b ep eq e =
    absurd (no_group q g (r ++ p) s eq is (sym (ap (λ (xs : List ℕ). xs ++ q) b) ∙ sym e ∙ ap (λ (xs : List ℕ). xs ++ p) w ∙ ap (λ (xs : List ℕ). 58 ∷ xs) (append_assoc g r p)))
same_groups (s ∷ ss) ts h k p q (inr (last, octets, never, w, d, v)) b ep eq e = absurd (cc)
same_groups (s ∷ ss) (t ∷ ts) h k p q (inl (g, r, w, is, more)) (inr (last, octets, never, y, d, v)) ep eq e = absurd (cc)
same_groups (s ∷ ss) (t ∷ ts) h k p q (inl (g, r, w, is, more)) (inl (g', r', w', is', more')) ep eq e =
    let whole : 58 ∷ (g ++ (r ++ p)) ≡ 58 ∷ (g' ++ (r' ++ q)) =
    sym (ap (λ (xs : List ℕ). xs ++ p) w ∙ ap (λ (xs : List ℕ). 58 ∷ xs) (append_assoc g r p)) ∙ e ∙ ap (λ (xs : List ℕ). xs ++ q) w' ∙ ap (λ (xs : List ℕ). 58 ∷ xs) (append_assoc g' r' q) in
    let inner : g ++ (r ++ p) ≡ g' ++ (r' ++ q) = cc in
    let cut = one_cut g g' (r ++ p) (r' ++ q) (group_lacks g s is) (group_lacks g' t is') (group_follows r p ss more ep) (group_follows r' q ts more' eq) inner in
    let rest = same_groups ss ts r r' p q more more' ep eq cut.1 in
    (cons_same s t ss ts (one_value g g' s t is is' cut.0) rest.0, rest.1)

-- the same where no colon stands in front
same_first : (ss ts h k p q : List ℕ) → IsGroupsAfter false [] h ss → IsGroupsAfter false [] k ts → Ends p → Ends q →
    h ++ p ≡ k ++ q → (ss ≡ ts) × (p ≡ q)
same_first [] [] h k p q a b ep eq e = (refl, sym (ap (λ (xs : List ℕ). xs ++ p) a) ∙ e ∙ ap (λ (xs : List ℕ). xs ++ q) b)
same_first [] (t ∷ ts) h k p q a (inl (g, r, w, is, more)) ep eq e =
    absurd (no_first p g (r ++ q) t ep is (sym (ap (λ (xs : List ℕ). xs ++ p) a) ∙ e ∙ ap (λ (xs : List ℕ). xs ++ q) w ∙ append_assoc g r q))
same_first [] (t ∷ ts) h k p q a (inr (last, octets, never, w, d, v)) ep eq e = absurd (cc)
same_first (s ∷ ss) [] h k p q (inl (g, r, w, is, more)) b ep eq e =
    absurd (no_first q g (r ++ p) s eq is (sym (ap (λ (xs : List ℕ). xs ++ q) b) ∙ sym e ∙ ap (λ (xs : List ℕ). xs ++ p) w ∙ append_assoc g r p))
same_first (s ∷ ss) ts h k p q (inr (last, octets, never, w, d, v)) b ep eq e = absurd (cc)
same_first (s ∷ ss) (t ∷ ts) h k p q (inl (g, r, w, is, more)) (inr (last, octets, never, y, d, v)) ep eq e = absurd (cc)
same_first (s ∷ ss) (t ∷ ts) h k p q (inl (g, r, w, is, more)) (inl (g', r', w', is', more')) ep eq e =
    let inner : g ++ (r ++ p) ≡ g' ++ (r' ++ q) =
    sym (ap (λ (xs : List ℕ). xs ++ p) w ∙ append_assoc g r p) ∙ e ∙ ap (λ (xs : List ℕ). xs ++ q) w' ∙ append_assoc g' r' q in
    let cut = one_cut g g' (r ++ p) (r' ++ q) (group_lacks g s is) (group_lacks g' t is') (group_follows r p ss more ep) (group_follows r' q ts more' eq) inner in
    let rest = same_groups ss ts r r' p q more more' ep eq cut.1 in
    (cons_same s t ss ts (one_value g g' s t is is' cut.0) rest.0, rest.1)

-- groups without a point are groups without an IPv4 address
plain_groups : (lead text segments : List ℕ) → IsGroupsAfter true lead text segments → Lacks 46 text → IsGroupsAfter false lead text segments
plain_groups lead text [] a l = a
plain_groups lead text (s ∷ ss) (inl (g, r, w, is, more)) l =
    inl (g, r, w, is, plain_groups (58 ∷ []) r ss more (lacks_back 46 (lead ++ g) r (subst (Lacks 46) w l)))
plain_groups lead text (s ∷ ss) (inr (last, octets, may, w, d, v)) l = absurd (has_dot last octets d (lacks_back 46 lead last (subst (Lacks 46) w l)))

colons_end : (rest : List ℕ) → Ends (58 ∷ 58 ∷ rest)
unfolding Ends
colons_end rest = (refl, refl)

nothing_ends : Ends []
unfolding Ends
nothing_ends = tt

spelled : (text h t : List ℕ) → text ≡ h ++ (58 ∷ 58 ∷ []) ++ t → text ≡ h ++ (58 ∷ 58 ∷ t)
spelled text h t e = e ∙ append_assoc h (58 ∷ 58 ∷ []) t

mixed : (text segments others : List ℕ) → Lacks 46 text → IsGroups true text segments → IsElided text others → ⊥
mixed text segments others l a b =
    let same = same_first segments b.head text b.head_text [] (58 ∷ 58 ∷ b.tail_text) (plain_groups [] text segments a l) b.head_groups
    nothing_ends (colons_end b.tail_text) (append-nil text ∙ spelled text b.head_text b.tail_text b.spelled) in cc

tail_lacks : (text segments : List ℕ) (h : IsElided text segments) → Lacks 46 text → Lacks 46 h.tail_text
tail_lacks text segments h l = lacks_back 46 (h.head_text ++ (58 ∷ 58 ∷ [])) h.tail_text (subst (Lacks 46) h.spelled l)

two_elided : (text xs ys : List ℕ) → Lacks 46 text → IsElided text xs → IsElided text ys → xs ≡ ys
two_elided text xs ys l a b =
    let same = same_first a.head b.head a.head_text b.head_text (58 ∷ 58 ∷ a.tail_text) (58 ∷ 58 ∷ b.tail_text) a.head_groups b.head_groups
    (colons_end a.tail_text) (colons_end b.tail_text) (sym (spelled text a.head_text a.tail_text a.spelled) ∙ spelled text b.head_text b.tail_text b.spelled) in
    let tails : a.tail_text ≡ b.tail_text = let ends = same.1 in cc in
    let back = same_first a.tail b.tail a.tail_text b.tail_text [] [] (plain_groups [] a.tail_text a.tail a.tail_groups (tail_lacks text xs a l))
    (plain_groups [] b.tail_text b.tail b.tail_groups (tail_lacks text ys b l)) nothing_ends nothing_ends (ap (λ (zs : List ℕ). zs ++ []) tails) in
    a.value ∙ (rw (same.0, back.0) (sym b.value))

pub one_colon_hex : (text xs ys : List ℕ) → Lacks 46 text → IsColonHex text xs → IsColonHex text ys → xs ≡ ys
one_colon_hex text xs ys l (inl a) (inl b) =
    (same_first xs ys text text [] [] (plain_groups [] text xs a.0 l) (plain_groups [] text ys b.0 l) nothing_ends nothing_ends refl).0
one_colon_hex text xs ys l (inl a) (inr b) = absurd (mixed text xs ys l a.0 b)
one_colon_hex text xs ys l (inr a) (inl b) = absurd (mixed text ys xs l b.0 a)
one_colon_hex text xs ys l (inr a) (inr b) = two_elided text xs ys l a b
