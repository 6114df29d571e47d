-- The moments of courses of events.
use Rattle.std.proofs.Common.{◌≡◌, List, [], ◌∷◌, ◌++◌, refl, sym, ◌∙◌, ap, subst, append_assoc}
use Rattle.std.proofs.lemmas.List.{append-nil}
use Rattle.journal.specs.Events.{Event, Runs}
use Rattle.journal.specs.Moments.{Moment, Follows, Passes}

pub Runs-append : {M : Type 0} (does : M → Event → M → Type 0) (xs ys : List Event) (a b c : M) → Runs does a xs b → Runs does b ys c
    → Runs does a (xs ++ ys) c
Runs-append does [] ys a b c one two = subst (λ m. Runs does m ys c) one two
Runs-append does (x ∷ xs) ys a b c one two = (one.0, one.1, Runs-append does xs ys one.0 b c one.2 two)

-- two courses, one after the other
pub record Parted (m n : Moment) (xs ys : List Event) (since : List Moment) : Type 0 where
  pub mid : Moment
  pub first : List Moment
  pub second : List Moment
  pub one : Passes m xs first mid
  pub two : Passes mid ys second n
  pub all : since ≡ first ++ second

pub Passes-split : (m n : Moment) (xs ys : List Event) (since : List Moment) → Passes m (xs ++ ys) since n → Parted m n xs ys since
Passes-split m n [] ys since h = record { mid = m; first = []; second = since; one = (refl, refl); two = h; all = refl }
Passes-split m n (x ∷ xs) ys since h =
    let rest = Passes-split h.0 n xs ys h.2 h.4 in record {
      mid = rest.mid;
      first = h.1 ++ rest.first;
      second = rest.second;
      one = (h.0, h.1, rest.first, h.3, rest.one, refl);
      two = rest.two;
      all = h.5 ∙ ap (λ (ms : List Moment). h.1 ++ ms) rest.all ∙ sym (append_assoc h.1 rest.first rest.second);
    }

-- one event
pub Passes-one : (m n : Moment) (e : Event) (since : List Moment) → Passes m (e ∷ []) since n → Follows m e since n
Passes-one m n e since h =
    let all : since ≡ h.1 = h.5 ∙ ap (λ (ms : List Moment). h.1 ++ ms) h.4.0 ∙ append-nil h.1 in
    let is : n ≡ h.0 = h.4.1 in
    subst (λ (x : Moment). Follows m e since x) (sym is) (subst (λ (ms : List Moment). Follows m e ms h.0) (sym all) h.3)
