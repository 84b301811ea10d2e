-- Certificates with places certify what they certified, and are of the second version.
use Rattle.std.proofs.Common.{◌≡◌, List, [], ◌∷◌, map, refl, sym, ap, ap₂, ◌∙◌, Bool, true, false, ◌&&◌, true≢false, Option, Some, None}
use Rattle.std.specs.Option.{option_map_or}
use Rattle.std.specs.List.{list_all}
use lib.IntN.{ℤ}
use Rattle.e_literal.specs.declared.object.Scope.{Scope}
use Rattle.e_literal.specs.declared.literal.Lit.{Lit}
use Rattle.e_literal.specs.Literal.{negation}
use Rattle.e_literal.specs.Facts.{has, others, is_metric}
use Rattle.e_literal.specs.Same.{same_lit}
use Rattle.e_literal.proofs.Booleans.{and_left, and_right}
use Rattle.e_clause.specs.declared.cert.RowName.{RowName}
use Rattle.e_clause.specs.declared.cert.RowName.TheVariants.{Fact, Goal, Pos, Top, Right as RightRow, Least, Above, Below, FactAt}
use Rattle.e_clause.specs.declared.cert.Sums.{Sums}
use Rattle.e_clause.specs.declared.cert.Sums.TheVariants.{One, Two}
use Rattle.e_clause.specs.declared.cert.Part.{Part}
use Rattle.e_clause.specs.declared.cert.Part.TheVariants.{Fact as FactPart, Metric, FactAt as FactPartAt}
use Rattle.e_clause.specs.declared.cert.TransferCert.{TransferCert}
use Rattle.e_clause.specs.declared.cert.Cert.{Cert}
use Rattle.e_clause.specs.declared.cert.Cert.TheVariants.{Plain, Transfer}
use Rattle.e_clause.specs.declared.cert.Against.{Against}
use Rattle.e_clause.specs.declared.cert.Against.TheVariants.{Clash, Metric as MetricAgainst}
use Rattle.e_clause.specs.Instance.{Inst}
use Rattle.e_clause.specs.MetricCertificate.{row_name_in, sum_in, are_sums_in, sums_refute}
use Rattle.e_clause.specs.PartCertificate.{part_certifies, part_in}
use Rattle.e_clause.specs.TransferCertificate.{parts_certify, instance_certifies, transfer_certifies, are_args_in}
use Rattle.e_clause.specs.RuleKinds.{is_transfer}
use Rattle.e_clause.specs.Certify.{certifies, certify_all, cert_in, cert_holds, certifies_against}
use Rattle.e_places.specs.Numbered.{name_with_place, turns, sum_with_places, opposite_side, sides_swapped, two_placed, sums_with_places, part_with_places, parts_with_places, placed_for, transfer_with_places, cert_with_places, certs_with_places, against_with_places}
use Rattle.e_places.proofs.placing.AlikeRows.{placed_fact}
use Rattle.e_places.proofs.placing.PlacedSums.{placed_refute}

-- ---- what they name is in scope

name_in_scope : (s : Scope) (facts : List Lit) (name : RowName) → row_name_in s name ≡ true → row_name_in s (name_with_place facts name) ≡ true
name_in_scope s facts (Fact l) h = refl
name_in_scope s facts Goal h = h
name_in_scope s facts (Pos t) h = h
name_in_scope s facts (Top t) h = h
name_in_scope s facts RightRow h = h
name_in_scope s facts (Least t) h = h
name_in_scope s facts Above h = h
name_in_scope s facts Below h = h
name_in_scope s facts (FactAt k) h = h

sum_in_scope : (s : Scope) (facts : List Lit) (xs : List (ℤ × RowName)) → sum_in s xs ≡ true → sum_in s (sum_with_places facts xs) ≡ true
sum_in_scope s facts [] h = refl
sum_in_scope s facts (x ∷ xs) h =
    ap₂ {A = Bool} {B = Bool} (λ a b. a && b) (name_in_scope s facts x.1 (and_left (row_name_in s x.1) (sum_in s xs) h)) (sum_in_scope s facts xs (and_right (row_name_in s x.1) (sum_in s xs) h))

other_in_scope : (s : Scope) (name : RowName) → row_name_in s name ≡ true → row_name_in s (opposite_side name) ≡ true
other_in_scope s (Fact l) h = h
other_in_scope s Goal h = h
other_in_scope s (Pos t) h = h
other_in_scope s (Top t) h = h
other_in_scope s RightRow h = h
other_in_scope s (Least t) h = h
other_in_scope s Above h = refl
other_in_scope s Below h = refl
other_in_scope s (FactAt k) h = h

swapped_in_scope : (s : Scope) (xs : List (ℤ × RowName)) → sum_in s xs ≡ true → sum_in s (sides_swapped xs) ≡ true
swapped_in_scope s [] h = refl
swapped_in_scope s (x ∷ xs) h =
    ap₂ {A = Bool} {B = Bool} (λ a b. a && b) (other_in_scope s x.1 (and_left (row_name_in s x.1) (sum_in s xs) h)) (swapped_in_scope s xs (and_right (row_name_in s x.1) (sum_in s xs) h))

all_three : (a b c : Bool) → a ≡ true → b ≡ true → c ≡ true → (a && (b && c)) ≡ true
all_three a b c x y z = rw (x, y, z)

sums_in_scope : (s : Scope) (facts : List Lit) (m : Sums) → are_sums_in s m ≡ true → are_sums_in s (sums_with_places facts m) ≡ true
sums_in_scope s facts (One sum) h = sum_in_scope s facts sum h
sums_in_scope s facts (Two differs first second) h = by (turns facts differs)
  where
    name : row_name_in s (name_with_place facts differs) ≡ true
    name = name_in_scope s facts differs (and_left (row_name_in s differs) (sum_in s first && sum_in s second) h)

    both : (sum_in s first && sum_in s second) ≡ true
    both = and_right (row_name_in s differs) (sum_in s first && sum_in s second) h

    one : sum_in s (sum_with_places facts first) ≡ true
    one = sum_in_scope s facts first (and_left (sum_in s first) (sum_in s second) both)

    two : sum_in s (sum_with_places facts second) ≡ true
    two = sum_in_scope s facts second (and_right (sum_in s first) (sum_in s second) both)

    by : (b : Bool) → are_sums_in s (two_placed b (name_with_place facts differs) (sum_with_places facts first) (sum_with_places facts second)) ≡ true
    by true = all_three _ _ _ name (swapped_in_scope s (sum_with_places facts second) two) (swapped_in_scope s (sum_with_places facts first) one)
    by false = all_three _ _ _ name one two

part_in_scope : (s : Scope) (facts : List Lit) (l : Lit) (p : Part) → part_in s p ≡ true → part_in s (part_with_places facts l p) ≡ true
part_in_scope s facts l FactPart h = refl
part_in_scope s facts l (Metric m) h = sums_in_scope s facts m.sums h
part_in_scope s facts l (FactPartAt k) h = refl

parts_in_scope : (s : Scope) (facts ls : List Lit) (ps : List Part) → list_all (part_in s) ps ≡ true → list_all (part_in s) (parts_with_places facts ls ps) ≡ true
parts_in_scope s facts [] ps h = refl
parts_in_scope s facts (l ∷ ls) [] h = refl
parts_in_scope s facts (l ∷ ls) (p ∷ ps) h =
    ap₂ {A = Bool} {B = Bool} (λ a b. a && b) (part_in_scope s facts l p (and_left (part_in s p) (list_all (part_in s) ps) h)) (parts_in_scope s facts ls ps (and_right (part_in s p) (list_all (part_in s) ps) h))

for_in_scope : (s : Scope) (facts : List Lit) (l : Lit) (ps : List Part) (o : Option (List Lit)) → list_all (part_in s) ps ≡ true → list_all (part_in s) (placed_for facts l ps o) ≡ true
for_in_scope s facts l ps (Some lits) h = parts_in_scope s facts (map negation (others lits l)) ps h
for_in_scope s facts l ps None h = refl

cert_in_scope : (s : Scope) (facts : List Lit) (l : Lit) (c : Cert) → cert_in s c ≡ true → cert_in s (cert_with_places facts l c) ≡ true
cert_in_scope s facts l (Plain p) h = part_in_scope s facts l p h
cert_in_scope s facts l (Transfer t) h =
    ap₂ {A = Bool} {B = Bool} (λ a b. a && b) (and_left (are_args_in s t) (list_all (part_in s) t.parts) h) (for_in_scope s facts l t.parts (Inst t.rule t.args) (and_right (are_args_in s t) (list_all (part_in s) t.parts) h))

-- ---- what they certify

part_certified : (facts : List Lit) (l : Lit) (p : Part) → part_certifies facts l p ≡ true → part_certifies facts l (part_with_places facts l p) ≡ true
part_certified facts l FactPart h = let f = placed_fact facts l h in ap (λ (o : Option Lit). option_map_or (λ m. same_lit m l) o false) f.1 ∙ f.2
part_certified facts l (Metric m) h =
    ap₂ {A = Bool} {B = Bool} (λ a b. a && b) (and_left (is_metric l) (sums_refute facts (Some l) m.sums) h) (placed_refute facts (Some l) m.sums (and_right (is_metric l) (sums_refute facts (Some l) m.sums) h))
part_certified facts l (FactPartAt k) h = h

parts_certified : (facts ls : List Lit) (ps : List Part) → parts_certify facts ls ps ≡ true → parts_certify facts ls (parts_with_places facts (map negation ls) ps) ≡ true
parts_certified facts [] [] h = refl
parts_certified facts [] (p ∷ ps) h = absurd (true≢false (sym h))
parts_certified facts (l ∷ ls) [] h = absurd (true≢false (sym h))
parts_certified facts (l ∷ ls) (p ∷ ps) h =
    let first : Bool = part_certifies facts (negation l) p in
    let rest : Bool = parts_certify facts ls ps in
    ap₂ {A = Bool} {B = Bool} (λ a b. a && b) (part_certified facts (negation l) p (and_left first rest h)) (parts_certified facts ls ps (and_right first rest h))

transfer_certified : (facts : List Lit) (l : Lit) (t : TransferCert) → transfer_certifies facts l t ≡ true → transfer_certifies facts l (transfer_with_places facts l t) ≡ true
transfer_certified facts l t h = by (Inst t.rule t.args) refl (and_right (is_transfer t.rule) (option_map_or (instance_certifies facts l t.parts) (Inst t.rule t.args) false) h)
  where
    rule : is_transfer t.rule ≡ true
    rule = and_left (is_transfer t.rule) (option_map_or (instance_certifies facts l t.parts) (Inst t.rule t.args) false) h

    by : (o : Option (List Lit)) → Inst t.rule t.args ≡ o → option_map_or (instance_certifies facts l t.parts) o false ≡ true → transfer_certifies facts l (transfer_with_places facts l t) ≡ true
    by None e k = absurd (true≢false (sym k))
    by (Some lits) e k =
        let parts = parts_certified facts (others lits l) t.parts (and_right (has lits l) (parts_certify facts (others lits l) t.parts) k) in
        let instance : instance_certifies facts l (placed_for facts l t.parts (Some lits)) lits ≡ true = ap₂ {A = Bool} {B = Bool} (λ a b. a && b) (and_left (has lits l) (parts_certify facts (others lits l) t.parts) k) parts in
        ap₂ {A = Bool} {B = Bool} (λ a b. a && b) rule
        (ap (λ o. option_map_or (instance_certifies facts l (placed_for facts l t.parts o)) o false) e ∙ instance)

pub cert_certified : (s : Scope) (facts : List Lit) (l : Lit) (c : Cert) → certifies s facts l c ≡ true → certifies s facts l (cert_with_places facts l c) ≡ true
cert_certified s facts l c h = ap₂ {A = Bool} {B = Bool} (λ a b. a && b) (cert_in_scope s facts l c (and_left (cert_in s c) (cert_holds facts l c) h)) (by c (and_right (cert_in s c) (cert_holds facts l c) h))
  where
    by : (c : Cert) → cert_holds facts l c ≡ true → cert_holds facts l (cert_with_places facts l c) ≡ true
    by (Plain p) k = part_certified facts l p k
    by (Transfer t) k = transfer_certified facts l t k

pub certs_certified : (s : Scope) (facts ls : List Lit) (cs : List Cert) → certify_all s facts ls cs ≡ true → certify_all s facts ls (certs_with_places facts ls cs) ≡ true
certs_certified s facts [] [] h = refl
certs_certified s facts [] (c ∷ cs) h = absurd (true≢false (sym h))
certs_certified s facts (l ∷ ls) [] h = absurd (true≢false (sym h))
certs_certified s facts (l ∷ ls) (c ∷ cs) h =
    let first : Bool = certifies s facts l c in
    let rest : Bool = certify_all s facts ls cs in
    ap₂ {A = Bool} {B = Bool} (λ a b. a && b) (cert_certified s facts l c (and_left first rest h)) (certs_certified s facts ls cs (and_right first rest h))

pub against_certified : (s : Scope) (facts : List Lit) (a : Against) → certifies_against s facts a ≡ true → certifies_against s facts (against_with_places facts a) ≡ true
against_certified s facts (Clash l) h = h
against_certified s facts (MetricAgainst m) h =
    let inside : Bool = are_sums_in s m.sums in
    let refuted : Bool = sums_refute facts None m.sums in
    ap₂ {A = Bool} {B = Bool} (λ a b. a && b) (sums_in_scope s facts m.sums (and_left inside refuted h)) (placed_refute facts None m.sums (and_right inside refuted h))
