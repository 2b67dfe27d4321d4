mod Sourcing
mod Leaving
mod Picking
mod Following
mod Tracing
mod Laying
mod Deciding
