-- What a file states is one list of updates; the steps that survive are a chain of their own.
use Rattle.std.proofs.Common.{◌≡◌, ℕ, Bool, true, false, List, [], ◌∷◌, ◌++◌, length, refl, sym, ◌∙◌, ap, subst, append_assoc, arith, length-append}
use Rattle.std.proofs.lemmas.List.{append-nil, append_cancel_left}
use Rattle.values.specs.Names.{name_cmp-IsTotalOrder, name_cmp-IsAntisymmetric}
use Rattle.stamped_store.specs.Store.{Store, Update, store_of, updates}
use Rattle.stamped_store.proofs.Greatests.{entry_order}
use Rattle.stamped_store.proofs.GreatestsBy.{store_of-append}
use Rattle.std.specs.List.{AllByRecursion}
use Rattle.journal.specs.Moments.{IsUnchecked}
use Rattle.journal.specs.Records.{AreStated, Holds}
use Rattle.journal.specs.Steps.{Chain, Done, replies_of, updates_of}

module _ (states : List ℕ → List Update → Type 0) (checked : List ℕ → Bool)
    (one : (bytes : List ℕ) (us vs : List Update) → states bytes us → states bytes vs → us ≡ vs)
    (right : (bytes : List ℕ) (us : List Update) → states bytes us → checked bytes ≡ true) where
  no_record : (line : List ℕ) (us : List Update) → states line us → checked line ≡ false → ⊥
  no_record line us says wrong = let is = right line us says in absurd (cc (is, wrong))

  -- the lines up to the first without a right checksum
  AreStated-unique : (good bad other worse : List (List ℕ)) (us vs : List Update) → good ++ bad ≡ other ++ worse → AreStated states good us
      → AllByRecursion (IsUnchecked checked) bad → AreStated states other vs → AllByRecursion (IsUnchecked checked) worse → us ≡ vs
  AreStated-unique [] bad [] worse us vs e h none k never = h ∙ sym k
  AreStated-unique [] bad (o ∷ other) worse us vs e h none k never =
      absurd (no_record o k.0 k.2 (subst (λ (ls : List (List ℕ)). AllByRecursion (IsUnchecked checked) ls) e none).0)
  AreStated-unique (g ∷ good) bad [] worse us vs e h none k never =
      absurd (no_record g h.0 h.2 (subst (λ (ls : List (List ℕ)). AllByRecursion (IsUnchecked checked) ls) (sym e) never).0)
  AreStated-unique (g ∷ good) bad (o ∷ other) worse us vs e h none k never =
      let is : o ≡ g = cc in
      let tails : good ++ bad ≡ other ++ worse = cc in
      let first : h.0 ≡ k.0 = one g h.0 k.0 h.2 (subst (λ (l : List ℕ). states l k.0) is k.2) in
      h.4 ∙ ap (λ (ws : List Update). ws ++ h.1) first
      ∙ ap (λ (ws : List Update). k.0 ++ ws) (AreStated-unique good bad other worse h.1 k.1 tails h.3 none k.3 never) ∙ sym k.4

  pub Holds-unique : (file : List ℕ) (us vs : List Update) → Holds states checked file us → Holds states checked file vs → us ≡ vs
  Holds-unique file us vs h k =
      AreStated-unique h.records h.others k.records k.others us vs (sym h.lines ∙ k.lines) h.stated h.unchecked k.stated k.unchecked

module _ (steps : Store → List ℕ → List Update → List ℕ → Store → Type 0) where
  pub record Joint (xs ys : List Done) (s t : Store) : Type 0 where
    pub mid : Store
    pub front : Chain steps xs s mid
    pub back : Chain steps ys mid t

  pub Chain-split : (xs ys : List Done) (s t : Store) → Chain steps (xs ++ ys) s t → Joint xs ys s t
  Chain-split [] ys s t chain = record { mid = s; front = refl; back = chain }
  Chain-split (x ∷ xs) ys s t chain =
      let joint = Chain-split xs ys chain.0 t chain.2 in record { mid = joint.mid; front = (chain.0, chain.1, joint.front); back = joint.back }

  pub Chain-append : (xs ys : List Done) (s m t : Store) → Chain steps xs s m → Chain steps ys m t → Chain steps (xs ++ ys) s t
  Chain-append [] ys s m t front back = subst (λ (x : Store). Chain steps ys x t) front back
  Chain-append (x ∷ xs) ys s m t front back = (front.0, front.1, Chain-append xs ys front.0 m t front.2 back)

  module _ (applied : (s : Store) (request : List ℕ) (us : List Update) (reply : List ℕ) (t : Store) → steps s request us reply t → t ≡ store_of (updates s ++ us)) where
    pub Chain-store : (done : List Done) (s t : Store) (us : List Update) → s ≡ store_of us → Chain steps done s t → t ≡ store_of (us ++ updates_of done)
    Chain-store [] s t us is chain = chain ∙ is ∙ ap store_of (sym (append-nil us))
    Chain-store (d ∷ done) s t us is chain =
        let next : chain.0 ≡ store_of (us ++ d.applied) =
        applied s d.request d.applied d.reply chain.0 chain.1 ∙ ap (λ (x : Store). store_of (updates x ++ d.applied)) is
        ∙ store_of-append entry_order name_cmp-IsTotalOrder name_cmp-IsAntisymmetric us d.applied in
        Chain-store done chain.0 t (us ++ d.applied) next chain.2 ∙ ap store_of (append_assoc us d.applied (updates_of done))

    pub survivors_are_a_chain : (sent kept lost : List Done) (s t : Store) (us found : List Update) → s ≡ store_of us
        → Chain steps (sent ++ (kept ++ lost)) s t → found ≡ us ++ updates_of (sent ++ kept) → Chain steps (sent ++ kept) s (store_of found)
    survivors_are_a_chain sent kept lost s t us found is chain found_is =
        let joint = Chain-split (sent ++ kept) lost s t (subst (λ (ds : List Done). Chain steps ds s t) (sym (append_assoc sent kept lost)) chain) in
        let mid : joint.mid ≡ store_of found = Chain-store (sent ++ kept) s joint.mid us is joint.front ∙ ap store_of (sym found_is) in
        subst (λ (x : Store). Chain steps (sent ++ kept) s x) mid joint.front

nothing_before : (ds es : List Done) → [] ≡ ds ++ es → ds ≡ []
nothing_before [] es e = refl
nothing_before (d ∷ ds) es e = absurd (cc)

-- a step whose reply was sent is all that was sent
pub one_is_sent : (d : Done) (sent kept lost : List Done) (before : List (List ℕ)) → d ∷ [] ≡ sent ++ (kept ++ lost)
    → before ++ d.reply ∷ [] ≡ before ++ replies_of sent → updates_of (sent ++ kept) ≡ d.applied
one_is_sent d [] kept lost before split replies =
    let sizes : length (before ++ d.reply ∷ []) ≡ length (before ++ []) = ap length replies in
    absurd (omega (arith, length-append before (d.reply ∷ []), length-append before [], sizes))
one_is_sent d (e ∷ sent) kept lost before split replies =
    let head : d ≡ e = cc in
    let none : [] ≡ sent ++ (kept ++ lost) = cc in
    let sent_is : sent ≡ [] = nothing_before sent (kept ++ lost) none in
    let rest_is : [] ≡ kept ++ lost = none ∙ ap (λ (ds : List Done). ds ++ (kept ++ lost)) sent_is in
    let kept_is : kept ≡ [] = nothing_before kept lost rest_is in
    ap updates_of (ap (λ (ds : List Done). e ∷ (ds ++ kept)) sent_is ∙ ap (λ (ds : List Done). e ∷ ds) kept_is)
    ∙ append-nil e.applied ∙ ap (λ (x : Done). x.applied) (sym head)

pub cancel_first : (first us : List Update) → first ≡ first ++ us → us ≡ []
cancel_first first us same = append_cancel_left first us [] (sym same ∙ sym (append-nil first))
