-- The objects that a certificate names are in the scope before its step.
use Rattle.std.proofs.Common.{◌≡◌, List, [], ◌∷◌, ◌++◌, true, ◌&&◌, inl, inr, ℤ, Option, Some, None}
use Rattle.std.specs.Option.{option_map_or}
use Rattle.std.specs.List.{list_all}
use Rattle.std.proofs.lemmas.Bool.{and_parts}
use Rattle.e_literal.specs.declared.object.Obj.{Obj}
use Rattle.e_literal.specs.declared.object.Scope.{Scope}
use Rattle.e_literal.specs.declared.literal.Lit.{Lit}
use Rattle.e_literal.specs.Literal.{negation, is_in_scope, objects_of_term, objects_of_atom}
use Rattle.e_literal.specs.Facts.{others}
use Rattle.e_clause.specs.declared.cert.Cert.{Cert}
use Rattle.e_clause.specs.declared.cert.Cert.TheVariants.{Plain, Transfer}
use Rattle.e_clause.specs.declared.cert.Part.{Part}
use Rattle.e_clause.specs.declared.cert.Part.TheVariants.{Fact as FactPart, Metric, FactAt as FactPartAt}
use Rattle.e_clause.specs.declared.cert.Against.{Against}
use Rattle.e_clause.specs.declared.cert.Against.TheVariants.{Clash, Metric as MetricAgainst}
use Rattle.e_clause.specs.declared.cert.RowName.{RowName}
use Rattle.e_clause.specs.declared.cert.RowName.TheVariants.{Fact, Pos, Top, Least}
use Rattle.e_clause.specs.declared.cert.Sums.{Sums}
use Rattle.e_clause.specs.declared.cert.Sums.TheVariants.{One, Two}
use Rattle.e_clause.specs.Instance.{Inst}
use Rattle.e_clause.specs.MetricCertificate.{row_name_in, sum_in, are_sums_in}
use Rattle.e_clause.specs.PartCertificate.{part_in}
use Rattle.e_clause.specs.TransferCertificate.{are_args_in}
use Rattle.e_clause.specs.Certify.{cert_in, certifies, certify_all, against_in}
use Rattle.e_trim.specs.Looked.{no_wants, of_row, of_sum, of_sums, of_part, of_parts, of_cert, of_certs, of_against}
use Rattle.e_trim.proofs.renumbering.Members.{In, in_either, all_in}

-- all of the objects are in scope
abbrev pub AllIn : Scope → List Obj → Type 0
AllIn s os = (o : Obj) → In o os → is_in_scope s o ≡ true

pub both_in : (s : Scope) (xs ys : List Obj) → AllIn s xs → AllIn s ys → AllIn s (xs ++ ys)
both_in s xs ys h k o i = elim (in_either o xs ys i) [
  | inl j ↦ h o j
  | inr j ↦ k o j
]

pub listed_in : (s : Scope) (os : List Obj) → list_all (is_in_scope s) os ≡ true → AllIn s os
listed_in s os h o i = all_in (is_in_scope s) os o h i

none_in : (s : Scope) → AllIn s []
none_in s o i = absurd i

row_in : (s : Scope) (facts : List Lit) (wanted : Option Lit) (name : RowName) → row_name_in s name ≡ true → AllIn s (of_row facts wanted name).objects
row_in s facts wanted (Fact l) h = listed_in s (objects_of_atom l.atom) h
row_in s facts wanted (Pos t) h = listed_in s (objects_of_term t) h
row_in s facts wanted (Top t) h = listed_in s (objects_of_term t) h
row_in s facts wanted (Least t) h = listed_in s (objects_of_term t) h
row_in s facts wanted name h = λ o i. absurd i

rows_in : (s : Scope) (facts : List Lit) (wanted : Option Lit) (xs : List (ℤ × RowName)) → sum_in s xs ≡ true → AllIn s (of_sum facts wanted xs).objects
rows_in s facts wanted [] h = none_in s
rows_in s facts wanted (x ∷ xs) h =
    let p = and_parts (row_name_in s x.1) (sum_in s xs) h in
    both_in s (of_row facts wanted x.1).objects (of_sum facts wanted xs).objects (row_in s facts wanted x.1 p.0) (rows_in s facts wanted xs p.1)

pub sums_scope : (s : Scope) (facts : List Lit) (wanted : Option Lit) (sums : Sums) → are_sums_in s sums ≡ true → AllIn s (of_sums facts wanted sums).objects
sums_scope s facts wanted (One sum) h = rows_in s facts wanted sum h
sums_scope s facts wanted (Two differs first second) h =
    let p = and_parts (row_name_in s differs) (sum_in s first && sum_in s second) h in
    let q = and_parts (sum_in s first) (sum_in s second) p.1 in
    both_in s (of_row facts wanted differs).objects ((of_sum facts wanted first).objects ++ (of_sum facts wanted second).objects) (row_in s facts wanted differs p.0)
    (both_in s (of_sum facts wanted first).objects (of_sum facts wanted second).objects (rows_in s facts wanted first q.0) (rows_in s facts wanted second q.1))

part_scope : (s : Scope) (facts : List Lit) (l : Lit) (p : Part) → part_in s p ≡ true → AllIn s (of_part facts l p).objects
part_scope s facts l FactPart h = none_in s
part_scope s facts l (Metric m) h = sums_scope s facts (Some l) m.sums h
part_scope s facts l (FactPartAt k) h = none_in s

parts_scope : (s : Scope) (facts ls : List Lit) (ps : List Part) → list_all (part_in s) ps ≡ true → AllIn s (of_parts facts ls ps).objects
parts_scope s facts [] ps h = none_in s
parts_scope s facts (l ∷ ls) [] h = none_in s
parts_scope s facts (l ∷ ls) (p ∷ ps) h =
    let q = and_parts (part_in s p) (list_all (part_in s) ps) h in
    both_in s (of_part facts (negation l) p).objects (of_parts facts ls ps).objects (part_scope s facts (negation l) p q.0) (parts_scope s facts ls ps q.1)

instance_scope : (s : Scope) (facts : List Lit) (l : Lit) (ps : List Part) (inst : Option (List Lit)) → list_all (part_in s) ps ≡ true
    → AllIn s (option_map_or (λ lits. of_parts facts (others lits l) ps) inst no_wants).objects
instance_scope s facts l ps None h = none_in s
instance_scope s facts l ps (Some lits) h = parts_scope s facts (others lits l) ps h

cert_scope : (s : Scope) (facts : List Lit) (l : Lit) (c : Cert) → cert_in s c ≡ true → AllIn s (of_cert facts l c).objects
cert_scope s facts l (Plain p) h = part_scope s facts l p h
cert_scope s facts l (Transfer t) h =
    let q = and_parts (are_args_in s t) (list_all (part_in s) t.parts) h in
    both_in s t.args (option_map_or (λ lits. of_parts facts (others lits l) t.parts) (Inst t.rule t.args) no_wants).objects
    (listed_in s t.args q.0) (instance_scope s facts l t.parts (Inst t.rule t.args) q.1)

pub certs_scope : (s : Scope) (facts known ls : List Lit) (cs : List Cert) → certify_all s known ls cs ≡ true → AllIn s (of_certs facts ls cs).objects
certs_scope s facts known [] cs h = none_in s
certs_scope s facts known (l ∷ ls) [] h = none_in s
certs_scope s facts known (l ∷ ls) (c ∷ cs) h =
    let p = and_parts (certifies s known l c) (certify_all s known ls cs) h in
    let q = and_parts (cert_in s c) (Rattle.e_clause.specs.Certify.cert_holds known l c) p.0 in
    both_in s (of_cert facts l c).objects (of_certs facts ls cs).objects (cert_scope s facts l c q.0) (certs_scope s facts known ls cs p.1)

pub against_scope : (s : Scope) (facts : List Lit) (a : Against) → against_in s a ≡ true → AllIn s (of_against facts a).objects
against_scope s facts (Clash l) h =
    both_in s (objects_of_atom l.atom) (objects_of_atom l.atom) (listed_in s (objects_of_atom l.atom) h) (listed_in s (objects_of_atom l.atom) h)
against_scope s facts (MetricAgainst m) h = sums_scope s facts None m.sums h
