pub mod LimitLaws
pub mod MentionLaws
pub mod NumberingLaws
pub mod TwiceLaws
pub mod BelowLaws
pub mod ScopelessLaws
pub mod ParamLaws
pub mod CountLaws
