-- What is made of facts before goals are searched for.
use Rattle.std.specs.Prelude.{◌≡◌, ℕ, List, not, ◌||◌, IsTrue}
use Rattle.e_literal.specs.declared.literal.Lit.{Lit}
use Rattle.e_transfer.specs.declared.models.Filling.TheVariants as filling
use Rattle.e_transfer.specs.declared.prepared.Prepared.{Prepared}
use Rattle.e_transfer.specs.Models.{is_model, value_by}
use Rattle.e_transfer.specs.Areas.{name_areas_of}
use Rattle.e_transfer.specs.Marks.{are_marked}
use Rattle.e_transfer.specs.Listings.{IsListing}
use Rattle.e_transfer.specs.inner.ListedTerms.{angles_of, segments_of, zero_segments_of}
use Rattle.e_transfer.specs.inner.ListedTerms.{are_angles_within}

-- the areas are named, the relations marked, the numbers, the angles and the segments listed, and the values are those of the models that are named
pub record IsPrepared (facts : List Lit) (p : Prepared) : Type 0 where
  pub marked : IsTrue (are_marked p.marks facts)
  pub listed : IsListing facts p.listing.items
  pub angles : p.angles.items ≡ angles_of p.values
  pub segments : p.segments.items ≡ segments_of p.values
  pub zeros : p.zero_segments.items ≡ zero_segments_of p.values
  pub within : IsTrue (not p.lists_all || are_angles_within p.values)
  pub named : IsTrue (name_areas_of p.areas.items facts)
  pub all : (n : ℕ)
      → IsTrue (not p.lists_all || is_model facts (value_by (filling.Each n) p.values))
  pub plain : IsTrue (not p.plain_model || is_model facts (value_by (filling.Each 1) p.values))
  pub spread : IsTrue (not p.spread_model || is_model facts (value_by filling.Spread p.values))
  pub flat : IsTrue (not p.flat_model || is_model facts (value_by filling.Flat p.values))
