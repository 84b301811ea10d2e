-- The literals that certificates of one version name are well formed.
use Rattle.std.proofs.Common.{◌≡◌, ◌^◌, List, [], ◌∷◌, refl, true, ltb, ◌&&◌}
use Rattle.std.specs.List.{list_all}
use Rattle.std.proofs.lemmas.Bool.{and_from}
use lib.IntN.{ℤ}
use Rattle.e_literal.specs.WellFormed.{is_well_formed}
use Rattle.e_literal.proofs.Booleans.{and_left, and_right}
use Rattle.e_clause.specs.declared.cert.Version.{Version}
use Rattle.e_clause.specs.declared.cert.RowName.{RowName}
use Rattle.e_clause.specs.declared.cert.RowName.TheVariants.{Fact, Goal, Pos, Top, Right as RightRow, Least, Above, Below, FactAt}
use Rattle.e_clause.specs.declared.cert.Sums.{Sums}
use Rattle.e_clause.specs.declared.cert.Sums.TheVariants.{One, Two}
use Rattle.e_clause.specs.declared.cert.Part.{Part}
use Rattle.e_clause.specs.declared.cert.Part.TheVariants.{Fact as FactPart, Metric, FactAt as FactPartAt}
use Rattle.e_clause.specs.declared.cert.Cert.{Cert}
use Rattle.e_clause.specs.declared.cert.Cert.TheVariants.{Plain, Transfer}
use Rattle.e_clause.specs.declared.cert.Against.{Against}
use Rattle.e_clause.specs.declared.cert.Against.TheVariants.{Clash, Metric as MetricAgainst}
use Rattle.e_clause.specs.Written.{is_writable_name, is_writable_sum, are_writable_sums, is_writable_part, is_writable_cert, is_writable_against}
use Rattle.e_clause.specs.Versions.{by_literals, by_places, is_name_of, is_sum_of, are_sums_of, is_part_of, is_cert_of, is_against_of}

pub good_name : (v : Version) (r : RowName) → is_name_of v r ≡ true → is_writable_name r ≡ true
good_name v (Fact l) h = and_right (by_literals v) (is_well_formed l) h
good_name v Goal h = refl
good_name v (Pos t) h = refl
good_name v (Top t) h = refl
good_name v RightRow h = refl
good_name v (Least t) h = refl
good_name v Above h = refl
good_name v Below h = refl
good_name v (FactAt k) h = and_right (by_places v) (ltb k (2 ^ 32)) h

pub good_sum : (v : Version) (xs : List (ℤ × RowName)) → is_sum_of v xs ≡ true → is_writable_sum xs ≡ true
good_sum v [] h = refl
good_sum v (x ∷ xs) h =
    and_from (is_writable_name x.1) (is_writable_sum xs) (good_name v x.1 (and_left (is_name_of v x.1) (is_sum_of v xs) h)) (good_sum v xs (and_right (is_name_of v x.1) (is_sum_of v xs) h))

pub good_sums : (v : Version) (s : Sums) → are_sums_of v s ≡ true → are_writable_sums s ≡ true
good_sums v (One sum) h = good_sum v sum h
good_sums v (Two differs above below) h =
    let both = is_sum_of v above && is_sum_of v below in
    let k = and_right (is_name_of v differs) both h in
    and_from (is_writable_name differs) (is_writable_sum above && is_writable_sum below) (good_name v differs (and_left (is_name_of v differs) both h))
    (and_from (is_writable_sum above) (is_writable_sum below) (good_sum v above (and_left (is_sum_of v above) (is_sum_of v below) k)) (good_sum v below (and_right (is_sum_of v above) (is_sum_of v below) k)))

pub good_part : (v : Version) (p : Part) → is_part_of v p ≡ true → is_writable_part p ≡ true
good_part v FactPart h = refl
good_part v (Metric m) h = good_sums v m.sums h
good_part v (FactPartAt k) h = and_right (by_places v) (ltb k (2 ^ 32)) h

good_parts : (v : Version) (ps : List Part) → list_all (is_part_of v) ps ≡ true → list_all is_writable_part ps ≡ true
good_parts v [] h = refl
good_parts v (p ∷ ps) h =
    and_from (is_writable_part p) (list_all is_writable_part ps) (good_part v p (and_left (is_part_of v p) (list_all (is_part_of v) ps) h))
    (good_parts v ps (and_right (is_part_of v p) (list_all (is_part_of v) ps) h))

pub good_cert : (v : Version) (c : Cert) → is_cert_of v c ≡ true → is_writable_cert c ≡ true
good_cert v (Plain p) h = good_part v p h
good_cert v (Transfer t) h = good_parts v t.parts h

pub good_certs : (v : Version) (cs : List Cert) → list_all (is_cert_of v) cs ≡ true → list_all is_writable_cert cs ≡ true
good_certs v [] h = refl
good_certs v (c ∷ cs) h =
    and_from (is_writable_cert c) (list_all is_writable_cert cs) (good_cert v c (and_left (is_cert_of v c) (list_all (is_cert_of v) cs) h))
    (good_certs v cs (and_right (is_cert_of v c) (list_all (is_cert_of v) cs) h))

pub good_against : (v : Version) (a : Against) → is_against_of v a ≡ true → is_writable_against a ≡ true
good_against v (Clash l) h = refl
good_against v (MetricAgainst m) h = good_sums v m.sums h
