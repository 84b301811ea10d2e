-- A certificate certifies after the kept steps alone what it certified.
use Rattle.std.proofs.Common.{◌≡◌, List, [], ◌∷◌, map, refl, sym, ap, ◌∙◌, subst, Bool, true, false, ◌&&◌, not, true≢false, inl, inr, ℤ, Option, Some, None}
use Rattle.std.specs.Option.{option_map_or}
use Rattle.std.specs.List.{list_all}
use Rattle.std.proofs.lemmas.Bool.{and_parts, and_from}
use Rattle.e_literal.specs.declared.object.Obj.{Obj}
use Rattle.e_literal.specs.declared.object.Scope.{Scope}
use Rattle.e_literal.specs.declared.literal.Lit.{Lit}
use Rattle.e_literal.specs.Literal.{negation, is_in_scope, all_in_scope}
use Rattle.e_literal.specs.Facts.{has, others, is_metric}
use Rattle.e_clause.specs.declared.cert.Cert.{Cert}
use Rattle.e_clause.specs.declared.cert.Cert.TheVariants.{Plain, Transfer}
use Rattle.e_clause.specs.declared.cert.Part.{Part}
use Rattle.e_clause.specs.declared.cert.Part.TheVariants.{Fact as FactPart, Metric, FactAt as FactPartAt}
use Rattle.e_clause.specs.declared.cert.TransferCert.{TransferCert}
use Rattle.e_clause.specs.declared.cert.Against.{Against}
use Rattle.e_clause.specs.declared.cert.Against.TheVariants.{Clash, Metric as MetricAgainst}
use Rattle.e_clause.specs.declared.cert.RowName.{RowName}
use Rattle.e_clause.specs.declared.cert.RowName.TheVariants.{Fact, Pos, Top, Least}
use Rattle.e_clause.specs.declared.cert.Sums.{Sums}
use Rattle.e_clause.specs.declared.cert.Sums.TheVariants.{One, Two}
use Rattle.e_clause.specs.declared.cert.Version.TheVariants as version
use Rattle.e_clause.specs.Versions.{is_part_of, is_cert_of, is_against_of}
use Rattle.e_clause.specs.Instance.{Inst}
use Rattle.e_clause.specs.RuleKinds.{is_transfer}
use Rattle.e_clause.specs.Clash.{clashes_at}
use Rattle.e_clause.specs.MetricCertificate.{row_name_in, sum_in, are_sums_in, sums_refute}
use Rattle.e_clause.specs.PartCertificate.{part_certifies, part_in}
use Rattle.e_clause.specs.TransferCertificate.{parts_certify, instance_certifies, transfer_certifies, transfer_in}
use Rattle.e_clause.specs.Certify.{certifies, certify_all, certifies_against}
use Rattle.e_trim.specs.Looked.{no_wants, both, wanted_objects, of_lit, of_row, of_sum, of_sums, of_part, of_parts, of_transfer, of_cert, of_certs, of_against}
use Rattle.e_trim.specs.Trimmed.{lit_among_kept, obj_at, row_name_among_kept, sum_at, sums_at, part_at, transfer_among_kept, cert_at, against_at}
use Rattle.e_trim.proofs.renumbering.Members.{In, in_left, in_right}
use Rattle.e_trim.proofs.renumbering.Counting.{scope_kept}
use Rattle.e_trim.proofs.renumbering.RowsAt.{metric_at_is}
use Rattle.e_trim.proofs.renumbering.LitsAt.{AllKept, OverLit, OverLits, scope_over, term_scope, objects_scope, has_at, others_at}
use Rattle.e_trim.proofs.kept_certificates.Staying.{Stays, still_has}
use Rattle.e_trim.proofs.kept_certificates.TermsStay.{Covered}
use Rattle.e_trim.proofs.kept_certificates.SumsStay.{cover_left, cover_right, sums_stay}
use Rattle.e_trim.proofs.renumbering.InstancesAt.{inst_at, inst_over}

some_is : {X : Type 0} (x y : X) → Some x ≡ Some y → x ≡ y
some_is x y e = cc

-- ---- the objects that it names

name_in : (kept : List Obj) (facts looked : List Lit) (wanted : Option Lit) (name : RowName) → Covered kept looked (of_row facts wanted name) → row_name_in (scope_kept kept) (row_name_among_kept kept name) ≡ true
name_in kept facts looked wanted (Fact l) c = scope_over kept l c.objects
name_in kept facts looked wanted (Pos t) c = term_scope kept t c.objects
name_in kept facts looked wanted (Top t) c = term_scope kept t c.objects
name_in kept facts looked wanted (Least t) c = term_scope kept t c.objects
name_in kept facts looked wanted name c = refl

names_in : (kept : List Obj) (facts looked : List Lit) (wanted : Option Lit) (xs : List (ℤ × RowName)) → Covered kept looked (of_sum facts wanted xs) → sum_in (scope_kept kept) (sum_at kept xs) ≡ true
names_in kept facts looked wanted [] c = refl
names_in kept facts looked wanted (x ∷ xs) c =
    and_from (row_name_in (scope_kept kept) (row_name_among_kept kept x.1)) (sum_in (scope_kept kept) (sum_at kept xs))
    (name_in kept facts looked wanted x.1 (cover_left kept looked (of_row facts wanted x.1) (of_sum facts wanted xs) c))
    (names_in kept facts looked wanted xs (cover_right kept looked (of_row facts wanted x.1) (of_sum facts wanted xs) c))

sums_named : (kept : List Obj) (facts looked : List Lit) (wanted : Option Lit) (sums : Sums) → Covered kept looked (of_sums facts wanted sums) → are_sums_in (scope_kept kept) (sums_at kept sums) ≡ true
sums_named kept facts looked wanted (One sum) c = names_in kept facts looked wanted sum c
sums_named kept facts looked wanted (Two differs first second) c =
    let own = cover_left kept looked (of_row facts wanted differs) (both (of_sum facts wanted first) (of_sum facts wanted second)) c in
    let sums = cover_right kept looked (of_row facts wanted differs) (both (of_sum facts wanted first) (of_sum facts wanted second)) c in
    and_from (row_name_in (scope_kept kept) (row_name_among_kept kept differs)) (sum_in (scope_kept kept) (sum_at kept first) && sum_in (scope_kept kept) (sum_at kept second))
    (name_in kept facts looked wanted differs own)
    (and_from (sum_in (scope_kept kept) (sum_at kept first)) (sum_in (scope_kept kept) (sum_at kept second))
    (names_in kept facts looked wanted first (cover_left kept looked (of_sum facts wanted first) (of_sum facts wanted second) sums))
    (names_in kept facts looked wanted second (cover_right kept looked (of_sum facts wanted first) (of_sum facts wanted second) sums)))

part_named : (kept : List Obj) (facts looked : List Lit) (l : Lit) (p : Part) → Covered kept looked (of_part facts l p) → part_in (scope_kept kept) (part_at kept p) ≡ true
part_named kept facts looked l FactPart c = refl
part_named kept facts looked l (Metric m) c = sums_named kept facts looked (Some l) m.sums c
part_named kept facts looked l (FactPartAt k) c = refl

-- ---- parts

own_goal : (kept : List Obj) (l m : Lit) → OverLit kept l → Some l ≡ Some m → OverLit kept m
own_goal kept l m o e = subst (OverLit kept) (some_is l m e) o

pub part_stays : (kept : List Obj) (facts now looked : List Lit) (l : Lit) (p : Part) → is_part_of version.One p ≡ true → Stays kept facts now looked → OverLit kept l → Covered kept looked (of_part facts l p)
    → part_certifies facts l p ≡ true → part_certifies now (lit_among_kept kept l) (part_at kept p) ≡ true
part_stays kept facts now looked l FactPart v st o c h = still_has kept facts now looked l st (c.lits l (inl refl)) o h
part_stays kept facts now looked l (Metric m) v st o c h =
    let q = and_parts (is_metric l) (sums_refute facts (Some l) m.sums) h in
    and_from (is_metric (lit_among_kept kept l)) (sums_refute now (Some (lit_among_kept kept l)) (sums_at kept m.sums)) (metric_at_is kept l ∙ q.0)
    (sums_stay kept facts now looked (Some l) m.sums v st (λ n e. own_goal kept l n o e) c q.1)
part_stays kept facts now looked l (FactPartAt k) v st o c h = absurd (true≢false (sym v))

parts_named : (kept : List Obj) (facts looked ls : List Lit) (ps : List Part) → Covered kept looked (of_parts facts ls ps) → parts_certify facts ls ps ≡ true → list_all (part_in (scope_kept kept)) (map (part_at kept) ps) ≡ true
parts_named kept facts looked [] [] c h = refl
parts_named kept facts looked [] (p ∷ ps) c h = absurd (true≢false (sym h))
parts_named kept facts looked (l ∷ ls) [] c h = refl
parts_named kept facts looked (l ∷ ls) (p ∷ ps) c h =
    let q = and_parts (part_certifies facts (negation l) p) (parts_certify facts ls ps) h in
    and_from (part_in (scope_kept kept) (part_at kept p)) (list_all (part_in (scope_kept kept)) (map (part_at kept) ps))
    (part_named kept facts looked (negation l) p (cover_left kept looked (of_part facts (negation l) p) (of_parts facts ls ps) c))
    (parts_named kept facts looked ls ps (cover_right kept looked (of_part facts (negation l) p) (of_parts facts ls ps) c) q.1)

parts_stay : (kept : List Obj) (facts now looked ls : List Lit) (ps : List Part) → list_all (is_part_of version.One) ps ≡ true → Stays kept facts now looked → OverLits kept ls → Covered kept looked (of_parts facts ls ps)
    → parts_certify facts ls ps ≡ true → parts_certify now (map (lit_among_kept kept) ls) (map (part_at kept) ps) ≡ true
parts_stay kept facts now looked [] [] v st o c h = refl
parts_stay kept facts now looked [] (p ∷ ps) v st o c h = absurd (true≢false (sym h))
parts_stay kept facts now looked (l ∷ ls) [] v st o c h = absurd (true≢false (sym h))
parts_stay kept facts now looked (l ∷ ls) (p ∷ ps) v st o c h =
    let one = and_parts (is_part_of version.One p) (list_all (is_part_of version.One) ps) v in
    let q = and_parts (part_certifies facts (negation l) p) (parts_certify facts ls ps) h in
    and_from (part_certifies now (negation (lit_among_kept kept l)) (part_at kept p)) (parts_certify now (map (lit_among_kept kept) ls) (map (part_at kept) ps))
    (part_stays kept facts now looked (negation l) p one.0 st (o l (inl refl)) (cover_left kept looked (of_part facts (negation l) p) (of_parts facts ls ps) c) q.0)
    (parts_stay kept facts now looked ls ps one.1 st (λ m i. o m (inr i)) (cover_right kept looked (of_part facts (negation l) p) (of_parts facts ls ps) c) q.1)

-- ---- transfers

map_or_is : {X : Type 0} (f : X → Bool) (o : Option X) → option_map_or f o false ≡ true → (x : X) × (o ≡ Some x) × (f x ≡ true)
map_or_is f None e = absurd (true≢false (sym e))
map_or_is f (Some x) e = (x, refl, e)

others_over : (kept : List Obj) (ls : List Lit) (l : Lit) → OverLits kept ls → OverLits kept (others ls l)
others_over kept ls l o m i = o m (Rattle.e_trim.proofs.renumbering.Members.of_filter (λ (x : Lit). not (Rattle.e_literal.specs.Same.same_lit x l)) m ls i).0

-- what its instance wants, where it has one
transfer_cover : (kept : List Obj) (facts looked : List Lit) (l : Lit) (t : TransferCert) (lits : List Lit) → Inst t.rule t.args ≡ Some lits → Covered kept looked (of_transfer facts l t)
    → AllKept kept t.args × Covered kept looked (of_parts facts (others lits l) t.parts)
transfer_cover kept facts looked l t lits e c =
    let w = option_map_or (λ ls. of_parts facts (others ls l) t.parts) (Inst t.rule t.args) no_wants in
    let args = cover_left kept looked (wanted_objects t.args) w c in
    let rest = cover_right kept looked (wanted_objects t.args) w c in
    (args.objects, subst (λ o. Covered kept looked (option_map_or (λ ls. of_parts facts (others ls l) t.parts) o no_wants)) e rest)

pub transfer_stays : (kept : List Obj) (facts now looked : List Lit) (l : Lit) (t : TransferCert) → list_all (is_part_of version.One) t.parts ≡ true → Stays kept facts now looked → OverLit kept l → Covered kept looked (of_transfer facts l t)
    → transfer_certifies facts l t ≡ true → (transfer_certifies now (lit_among_kept kept l) (transfer_among_kept kept t) ≡ true) × (transfer_in (scope_kept kept) (transfer_among_kept kept t) ≡ true)
transfer_stays kept facts now looked l t v st o c h =
    let q = and_parts (is_transfer t.rule) (option_map_or (instance_certifies facts l t.parts) (Inst t.rule t.args) false) h in
    let a = map_or_is (instance_certifies facts l t.parts) (Inst t.rule t.args) q.1 in
    let lits = a.0 in
    let p = and_parts (has lits l) (parts_certify facts (others lits l) t.parts) a.2 in
    let cover = transfer_cover kept facts looked l t lits a.1 c in
    let over = inst_over kept t.rule t.args lits cover.0 a.1 in
    let lits' = map (lit_among_kept kept) lits in
    let one = has_at kept lits l over o ∙ p.0 in
    let rest = ap (λ ls. parts_certify now ls (map (part_at kept) t.parts)) (others_at kept lits l over o) ∙ parts_stay kept facts now looked (others lits l) t.parts v st (others_over kept lits l over) cover.1 p.1 in (
      and_from (is_transfer t.rule) (option_map_or (instance_certifies now (lit_among_kept kept l) (map (part_at kept) t.parts)) (Inst t.rule (map (obj_at kept) t.args)) false) q.0
          (ap (λ x. option_map_or (instance_certifies now (lit_among_kept kept l) (map (part_at kept) t.parts)) x false) (inst_at kept t.rule t.args lits cover.0 a.1)
          ∙ and_from (has lits' (lit_among_kept kept l)) (parts_certify now (others lits' (lit_among_kept kept l)) (map (part_at kept) t.parts)) one rest),
      and_from (list_all (is_in_scope (scope_kept kept)) (map (obj_at kept) t.args)) (list_all (part_in (scope_kept kept)) (map (part_at kept) t.parts))
          (objects_scope kept t.args cover.0) (parts_named kept facts looked (others lits l) t.parts cover.1 p.1),
    )

-- ---- certificates

pub cert_stays : (kept : List Obj) (s : Scope) (facts now looked : List Lit) (l : Lit) (x : Cert) → is_cert_of version.One x ≡ true → Stays kept facts now looked → OverLit kept l → Covered kept looked (of_cert facts l x)
    → certifies s facts l x ≡ true → certifies (scope_kept kept) now (lit_among_kept kept l) (cert_at kept x) ≡ true
cert_stays kept s facts now looked l (Plain p) v st o c h =
    let q = and_parts (part_in s p) (part_certifies facts l p) h in
    and_from (part_in (scope_kept kept) (part_at kept p)) (part_certifies now (lit_among_kept kept l) (part_at kept p)) (part_named kept facts looked l p c) (part_stays kept facts now looked l p v st o c q.1)
cert_stays kept s facts now looked l (Transfer t) v st o c h =
    let q = and_parts (transfer_in s t) (transfer_certifies facts l t) h in
    let r = transfer_stays kept facts now looked l t v st o c q.1 in
    and_from (transfer_in (scope_kept kept) (transfer_among_kept kept t)) (transfer_certifies now (lit_among_kept kept l) (transfer_among_kept kept t)) r.1 r.0

pub certs_stay : (kept : List Obj) (s : Scope) (facts now looked ls : List Lit) (cs : List Cert) → list_all (is_cert_of version.One) cs ≡ true → Stays kept facts now looked → OverLits kept ls → Covered kept looked (of_certs facts ls cs)
    → certify_all s facts ls cs ≡ true → certify_all (scope_kept kept) now (map (lit_among_kept kept) ls) (map (cert_at kept) cs) ≡ true
certs_stay kept s facts now looked [] [] v st o c h = refl
certs_stay kept s facts now looked [] (x ∷ cs) v st o c h = absurd (true≢false (sym h))
certs_stay kept s facts now looked (l ∷ ls) [] v st o c h = absurd (true≢false (sym h))
certs_stay kept s facts now looked (l ∷ ls) (x ∷ cs) v st o c h =
    let one = and_parts (is_cert_of version.One x) (list_all (is_cert_of version.One) cs) v in
    let q = and_parts (certifies s facts l x) (certify_all s facts ls cs) h in
    and_from (certifies (scope_kept kept) now (lit_among_kept kept l) (cert_at kept x)) (certify_all (scope_kept kept) now (map (lit_among_kept kept) ls) (map (cert_at kept) cs))
    (cert_stays kept s facts now looked l x one.0 st (o l (inl refl)) (cover_left kept looked (of_cert facts l x) (of_certs facts ls cs) c) q.0)
    (certs_stay kept s facts now looked ls cs one.1 st (λ m i. o m (inr i)) (cover_right kept looked (of_cert facts l x) (of_certs facts ls cs) c) q.1)

-- ---- contradictions

pub against_stays : (kept : List Obj) (s : Scope) (facts now looked : List Lit) (a : Against) → is_against_of version.One a ≡ true → Stays kept facts now looked → Covered kept looked (of_against facts a)
    → certifies_against s facts a ≡ true → certifies_against (scope_kept kept) now (against_at kept a) ≡ true
against_stays kept s facts now looked (Clash l) v st c h =
    let own = cover_left kept looked (of_lit l) (of_lit (negation l)) c in
    let other = cover_right kept looked (of_lit l) (of_lit (negation l)) c in
    let q = and_parts (all_in_scope s l) (clashes_at facts l) h in
    let p = and_parts (not (is_metric l)) (has facts l && has facts (negation l)) q.1 in
    let r = and_parts (has facts l) (has facts (negation l)) p.1 in
    and_from (all_in_scope (scope_kept kept) (lit_among_kept kept l)) (clashes_at now (lit_among_kept kept l)) (scope_over kept l own.objects)
    (and_from (not (is_metric (lit_among_kept kept l))) (has now (lit_among_kept kept l) && has now (negation (lit_among_kept kept l))) (ap not (metric_at_is kept l) ∙ p.0)
    (and_from (has now (lit_among_kept kept l)) (has now (negation (lit_among_kept kept l)))
    (still_has kept facts now looked l st (own.lits l (inl refl)) own.objects r.0)
    (still_has kept facts now looked (negation l) st (other.lits (negation l) (inl refl)) other.objects r.1)))
against_stays kept s facts now looked (MetricAgainst m) v st c h =
    let q = and_parts (are_sums_in s m.sums) (sums_refute facts None m.sums) h in
    and_from (are_sums_in (scope_kept kept) (sums_at kept m.sums)) (sums_refute now None (sums_at kept m.sums))
    (sums_named kept facts looked None m.sums c) (sums_stay kept facts now looked None m.sums v st (λ n e. absurd cc) c q.1)
