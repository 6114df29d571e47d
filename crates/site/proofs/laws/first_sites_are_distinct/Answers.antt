use Rattle.site.proofs.FirstSites.{first_are_sites}
use Rattle.site.proofs.laws.first_sites_are_distinct.Goals as goal

pub returns : goal.returns
returns c = first_are_sites c.site_names_are_recognized.ensures.digits c.site_names_are_recognized.ensures.apart
