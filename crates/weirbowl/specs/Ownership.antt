-- Defines what a pointer that C keeps owns: the value at its address and the right to free that memory, or nothing.
-- Source: `Box` of Rust's std, which owns a value and its memory alike.
-- Rules of this product: the memory is that of the global allocator, and a slot without a site owns nothing.
use base.Fml.{Fml, ftrue}
use denote.RattleType.{RattleType}
use denote.RawPtr.{Ptr}
use mir.Syntax.{Ty}
use Rattle.std.specs.Box.Ownership.{box_owns}
use Rattle.std.specs.Coded.{Coded, coded_option}
use Rattle.std.specs.Prelude.{Option, Some, None}
use Rattle.std.specs.contracts.impls.GlobalAllocator.TheImpl.{ghosts}
use Rattle.weirbowl.specs.contracts.embedded.EmbeddedSite.{the_row}

-- `may_free t p` is the right to free the block of a type `t` at `p`. It is the same for every handle (`Global`)
-- of the allocator.
abbrev pub may_free : Ty → Ptr → Fml
may_free = ghosts.dealloc_token (record { memory = record { seal = tt } })

-- `owned_at R p x` is the assertion that `p` owns the value `x` of the type `R` at its address, and the block.
abbrev pub owned_at : (R : RattleType) → Ptr → R.Denot → Fml
owned_at R p x = box_owns may_free R p x

-- `site_at p s` is the assertion that `p` owns the site in `s`, or nothing if `s` is `None`.
abbrev pub site_at : Ptr → Option the_row.Denot → Fml
site_at p None = ftrue
site_at p (Some site) = owned_at the_row p site

-- `site_coded` is the encoding in which proofs keep the ghost field `site` of a `SitePointer`: a site or nothing.
abbrev pub site_coded : Coded (Option the_row.Denot)
site_coded = coded_option the_row.coded
