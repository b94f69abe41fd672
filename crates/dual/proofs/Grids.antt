-- What a plan says of its rooms stays true when it is turned over its diagonal or reflected, so a lemma on one side or corner serves all four.
use Rattle.std.proofs.Common.{◌≡◌, ℕ, ◌<◌, ◌↔◌, sym}
use Rattle.dual.specs.Plans.{Line}
use Rattle.dual.proofs.Intervals.{Order, Lt, Rev, reverse}
use Rattle.dual.proofs.Rows.{climb}

-- ---- one direction, under any order
module _ {E : Type 0} (le : E → E → Type 0) where
  -- the position x is on the floor
  abbrev pub On : Line E → E → Type 0
  On a x = le a.near x × Lt le x a.far

  -- the position x is in the room r
  abbrev pub Within : Line E → ℕ → E → Type 0
  Within a r x = le (a.lo r) x × Lt le x (a.hi r)

  -- the rooms r and s share positions
  abbrev pub Shares : Line E → ℕ → ℕ → Type 0
  Shares a r s = Lt le (a.lo r) (a.hi s) × Lt le (a.lo s) (a.hi r)

  pub record Straight (Here : ℕ → Type 0) (a : Line E) : Type 0 where
    pub wide : Lt le a.near a.far
    pub proper : (r : ℕ) → Here r → Lt le (a.lo r) (a.hi r)
    pub begins : (r : ℕ) → Here r → le a.near (a.lo r)
    pub ends : (r : ℕ) → Here r → le (a.hi r) a.far

abbrev pub mirror : {E : Type 0} → Line E → Line E
mirror a = record { near = a.far; far = a.near; lo = a.hi; hi = a.lo }

-- ---- two directions
module _ {E : Type 0} (Here : ℕ → Type 0) where
  -- p ends along a where q begins, and they share positions along b
  abbrev pub Touch : (le : E → E → Type 0) (a b : Line E) → ℕ → ℕ → Type 0
  Touch le a b p q = Here p × Here q × (a.hi p ≡ a.lo q) × Shares le b p q

  -- every point lies in a room; in a reflected direction the far ends count in place of the near ones
  abbrev pub Covers : (le₁ le₂ : E → E → Type 0) (h v : Line E) → Type 0
  Covers le₁ le₂ h v = (x y : E) → On le₁ h x → On le₂ v y → (r : ℕ) × Here r × Within le₁ h r x × Within le₂ v r y

  -- each direction has an order of its own, so that one of them can be reflected
  pub record Grid (le₁ le₂ : E → E → Type 0) (B A : ℕ → ℕ → Type 0) (h v : Line E) : Type 0 where
    pub o₁ : Order E le₁
    pub o₂ : Order E le₂
    pub count : ℕ
    pub few : (r : ℕ) → Here r → r < count
    pub s₁ : Straight le₁ Here h
    pub s₂ : Straight le₂ Here v
    pub near_near : Covers le₁ le₂ h v
    pub near_far : Covers le₁ (Rev le₂) h (mirror v)
    pub far_near : Covers (Rev le₁) le₂ (mirror h) v
    pub far_far : Covers (Rev le₁) (Rev le₂) (mirror h) (mirror v)
    pub alone : (r s : ℕ) → Here r → Here s → Shares le₁ h r s → Shares le₂ v r s → r ≡ s
    pub uncrossed : (x y : E) (a b c d : ℕ) → Here a → Here b → Here c → Here d →
        h.hi a ≡ x → v.hi a ≡ y → h.lo b ≡ x → v.hi b ≡ y → h.hi c ≡ x → v.lo c ≡ y → h.lo d ≡ x → v.lo d ≡ y → ⊥
    pub beside : (p q : ℕ) → B p q ↔ Touch le₂ h v p q
    pub above : (p q : ℕ) → A p q ↔ Touch le₁ v h p q

module _ {E : Type 0} {Here : ℕ → Type 0} (le₁ le₂ : E → E → Type 0) (h v : Line E) where
  abbrev pub swap : Covers Here le₁ le₂ h v → Covers Here le₂ le₁ v h
  swap c = λ x y a b. let (r, here, w, u) = c y x b a in (r, here, u, w)

  -- where the near ends along h count, the far ends do too
  raise : Order E le₁ → (count : ℕ) → ((r : ℕ) → Here r → r < count) → Covers Here le₁ le₂ h v → Covers Here (Rev le₁) le₂ (mirror h) v
  raise o count few c = λ x y a b.
      let (r, t, w) = climb o h.lo h.hi count (λ r. Here r × Within le₂ v r y) (λ r t. few r t.0) h.near h.far
      (λ z from to. let (r, here, w, u) = c z y (from, to) b in (r, (here, u), w)) x a.0 a.1 in
      (r, t.0, w, t.1)

module _ {E : Type 0} {Here : ℕ → Type 0} {le₁ le₂ : E → E → Type 0} {B A : ℕ → ℕ → Type 0} {h v : Line E} (k : Grid Here le₁ le₂ B A h v) where
  -- the two directions exchanged
  abbrev pub turned : Grid Here le₂ le₁ A B v h
  turned = record {
    o₁ = k.o₂;
    o₂ = k.o₁;
    count = k.count;
    few = k.few;
    s₁ = k.s₂;
    s₂ = k.s₁;
    near_near = swap le₁ le₂ h v k.near_near;
    near_far = swap (Rev le₁) le₂ (mirror h) v k.far_near;
    far_near = swap le₁ (Rev le₂) h (mirror v) k.near_far;
    far_far = swap (Rev le₁) (Rev le₂) (mirror h) (mirror v) k.far_far;
    alone = λ r s rr rs m n. k.alone r s rr rs n m;
    uncrossed = λ x y a b c d ra rb rc rd ha va hb vb hc vc hd vd. k.uncrossed y x a c b d ra rc rb rd va ha vc hc vb hb vd hd;
    beside = k.above;
    above = k.beside;
  }

  -- v reflected
  abbrev pub flipped : Grid Here le₁ (Rev le₂) B (Rev A) h (mirror v)
  flipped = record {
    o₁ = k.o₁;
    o₂ = reverse k.o₂;
    count = k.count;
    few = k.few;
    s₁ = k.s₁;
    s₂ = record { wide = k.s₂.wide; proper = k.s₂.proper; begins = k.s₂.ends; ends = k.s₂.begins };
    near_near = k.near_far;
    near_far = k.near_near;
    far_near = k.far_far;
    far_far = k.far_near;
    alone = λ r s rr rs m n. k.alone r s rr rs m (n.1, n.0);
    uncrossed = λ x y a b c d ra rb rc rd ha va hb vb hc vc hd vd. k.uncrossed x y c d a b rc rd ra rb hc vc hd vd ha va hb vb;
    beside = λ p q. ((λ t. let (rp, rq, e, m) = (k.beside p q).0 t in (rp, rq, e, (m.1, m.0))), λ t. (k.beside p q).1 (t.0, t.1, t.2, (t.3.1, t.3.0)));
    above = λ p q. ((λ t. let (rq, rp, e, m) = (k.above q p).0 t in (rp, rq, sym e, (m.1, m.0))), λ t. (k.above q p).1 (t.1, t.0, sym t.2, (t.3.1, t.3.0)));
  }
