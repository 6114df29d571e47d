use Rattle.std.proofs.Common.{[], ◌∷◌, refl}
use Rattle.http_replies.specs.site.SiteViews.{schema_of, store_in}
use Rattle.http_service.proofs.laws.served_answers_are_sound.Goals as goal

pub returns : goal.returns
returns c old new input status line stated h = (
  h.0,
  (c.runs_are_sound.ensures stated.0 (schema_of old) stated.1 old.name (store_in old) (input ∷ []) (h.0 ∷ []) (store_in new)
      (store_in new, h.1, refl)).0,
  h.3,
)
